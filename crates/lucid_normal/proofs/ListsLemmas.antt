-- Lists of expressions: the next operand and the rest, and the use of all operands.
use Rattle.std.proofs.Common.{◌≡◌, ◌∙◌, ℕ, List, [], ◌∷◌, ◌++◌, Bool, true, false, Option, None, Some, ap, ap₂, length, map, refl, sym}
use denote.Bor.{Bor}
use Rattle.std.proofs.lemmas.List.{append-nil, append_assoc}
use Rattle.std.specs.Option.{option_map}
use Rattle.std.specs.Prelude.{⊤, is_some}
use Rattle.lucid_code.specs.declared.op.Act.TheVariants as act
use Rattle.lucid_code.specs.declared.op.Op.{Op}
use Rattle.lucid_code.specs.declared.op.Operand.{Operand}
use Rattle.lucid_core.specs.declared.body.Expr.{Expr}
use Rattle.lucid_core.specs.declared.body.Stmt.{Stmt}
use Rattle.lucid_core.specs.declared.body.Expr.TheOpen.{Expr-F, Stmt-F}
use Rattle.lucid_core.specs.declared.body.Expr.TheViews.{roll-Expr, roll-Stmt}
use Rattle.lucid_normal.specs.Given.{given_codes}
use Rattle.lucid_normal.specs.Bodies.{Walk, after_task, delay_last, ended, expressed, finished, inlined, left, listed, operand_of, optional, sent}
use Rattle.lucid_normal.specs.Bodies.{sent_at, target_in, target_last, used}
use Rattle.lucid_normal.specs.declared.task.End.TheVariants as end_of
use Rattle.lucid_normal.specs.declared.task.Task.TheVariants as task_of
use Rattle.lucid_normal.specs.declared.task.Purpose.{Purpose}
use Rattle.lucid_normal.specs.declared.task.Purpose.TheVariants.{Hash, Gen, Say}
use Rattle.lucid_normal_spec.specs.declared.env.Env.{Env}
use Rattle.lucid_normal_spec.specs.declared.env.Typed.{Typed}
use Rattle.lucid_normal_spec.specs.Translate.{◌>>=◌, Translation, body_code, both_made, call_made, delay_made, done, each_made, emit}
use Rattle.lucid_normal_spec.specs.Translate.{expr_code, given_made, held_by, holding, operands, ordered_made, out_made, stmt_code, target_made}
use Rattle.lucid_normal_steps.specs.Notes.{before}
use Rattle.lucid_normal_steps.specs.declared.calls.Caller.{Caller}
use Rattle.lucid_normal_steps.specs.Added.{added}
use Rattle.lucid_normal_steps.proofs.Adding.{added_none}
use Rattle.lucid_normal.proofs.BodiesLemmas.{bind, of_expr, of_stmt, opened_stmt, pair, then_done, through_done, valued_pair}

-- ---- operands

pub listed_none : (xs : List Operand) (purpose : Purpose) (s : Walk) → used purpose xs s ≡ listed xs [] purpose s
unfolding ended listed used
listed_none xs (Hash w) s = rw (append-nil xs, append-nil s.ops) refl
listed_none xs (Gen event delay to delay_first) s = rw (append-nil xs, append-nil s.ops) refl
listed_none xs (Say form) s = rw (append-nil xs, append-nil s.ops) refl

pub listed_next : (xs : List Operand) (e : Expr) (rest : List Expr) (purpose : Purpose) (s : Walk) →
    listed (xs ++ (operand_of (expressed (expr_code e).made s)).operand ∷ []) rest purpose (expressed (expr_code e).made s)
    ≡ listed xs (e ∷ rest) purpose s
unfolding ended listed
listed_next xs e rest purpose s =
    let x = (expr_code e).made in
    let more = each_made (map expr_code rest) in
    let vs = operands (more (x s.env).env).value in
    ap₂ (used purpose) (append_assoc xs ((held_by (x s.env).value).operand ∷ []) vs)
    (then_done (λ _. None) more (λ ts. held_by (x s.env).value ∷ ts) (expressed x s)
    ∙ valued_pair (λ _. None) x more (λ p. done (p.0 ∷ p.1)) s)

-- The rest has ended, or has a first expression.
pub listed_end : (xs : List Operand) (es : List Expr) (purpose : Purpose) (s : Walk) → length es ≡ 0 →
    used purpose xs s ≡ listed xs es purpose s
listed_end xs [] purpose s none = listed_none xs purpose s
listed_end xs (e ∷ es) purpose s none = absurd (cc)

pub listed_step : (xs : List Operand) (es : List Expr) (e : Expr) (rest : List Expr) → es ≡ e ∷ rest → (p q : Purpose) → p ≡ q →
    (s : Walk) → listed (xs ++ (operand_of (expressed (expr_code e).made s)).operand ∷ []) rest p (expressed (expr_code e).made s)
    ≡ listed xs es q s
listed_step xs es e rest is p q same s =
    listed_next xs e rest p s ∙ ap₂ (λ (zs : List Expr) (r : Purpose). listed xs zs r s) (sym is) same

-- ---- the use of operands

pub used_hash : (p : Purpose) (w : ℕ) → p ≡ Hash w → (xs : List Operand) (s : Walk) → expressed (emit w (act.Hash xs)) s ≡ used p xs s
unfolding used
used_hash p w is xs s = ap (λ (q : Purpose). used q xs s) (sym is)

pub used_gen : (p : Purpose) (event : ℕ) (d u : Bor (Option Expr)) (b : Bool) → p ≡ Gen event d u b → (xs : List Operand) (s : Walk) →
    finished (sent_at event xs d.now u.now b) s ≡ used p xs s
unfolding used
used_gen p event d u b is xs s = ap (λ (q : Purpose). used q xs s) (sym is)

pub used_say : (p : Purpose) (form : ℕ) → p ≡ Say form → (xs : List Operand) (s : Walk) →
    finished (out_made (λ slot. act.Say slot form xs)) s ≡ used p xs s
unfolding used
used_say p form is xs s = ap (λ (q : Purpose). used q xs s) (sym is)

pub hashed : {e : Expr} (w : ℕ) (xs : List Expr) → roll-Expr (Expr-F.Hash w xs) ≡ e → (s : Walk) →
    listed [] xs (Hash w) s ≡ expressed (expr_code e).made s
unfolding ended listed used
hashed w xs at s =
    bind (λ o. o) None (each_made (map expr_code xs)) (λ ts. emit w (act.Hash (operands ts))) s ∙ of_expr (Expr-F.Hash w xs) at s

pub said : {t : Stmt} (form : ℕ) (xs : List Expr) → roll-Stmt (Stmt-F.Say form xs) ≡ t → (s : Walk) →
    listed [] xs (Say form) s ≡ finished (stmt_code t) s
unfolding ended listed used
said form xs at s =
    bind (λ _. None) None (each_made (map expr_code xs)) (λ ts. out_made (λ slot. act.Say slot form (operands ts))) s
    ∙ of_stmt (Stmt-F.Say form xs) at s

-- ---- events

abbrev timed : Option Expr → Option Expr → Bool → Translation (Operand × Option Operand)
timed d u b = ordered_made b (delay_made (option_map expr_code d)) (target_made (option_map expr_code u))

opened_gen : (event : ℕ) (xs : List Expr) (d u : Option Expr) (b : Bool) →
    both_made (each_made (map expr_code xs)) (timed d u b) >>= (λ p. sent event (operands p.0) p.1.0 p.1.1)
    ≡ opened_stmt (Stmt-F.Gen event xs d u b)
opened_gen event xs None None b = refl
opened_gen event xs None (Some y) b = refl
opened_gen event xs (Some x) None b = refl
opened_gen event xs (Some x) (Some y) b = refl

pub generated : {t : Stmt} (event : ℕ) (xs : List Expr) (d u : Option Expr) (b : Bool) →
    roll-Stmt (Stmt-F.Gen event xs d u b) ≡ t → (d_at u_at : Bor (Option Expr)) → d_at.now ≡ d → u_at.now ≡ u → (s : Walk) →
    listed [] xs (Gen event d_at u_at b) s ≡ finished (stmt_code t) s
unfolding ended listed used
generated event xs d u b at d_at u_at d_is u_is s =
    ap₂ (λ (x y : Option Expr). finished (sent_at event (operands (each_made (map expr_code xs) s.env).value) x y b)
    (finished (each_made (map expr_code xs)) s)) d_is u_is
    ∙ pair (λ _. None) None (each_made (map expr_code xs)) (timed d u b) (λ p. sent event (operands p.0) p.1.0 p.1.1) s
    ∙ ap (λ (t : Translation ⊤). finished t s) (opened_gen event xs d u b)
    ∙ of_stmt (Stmt-F.Gen event xs d u b) at s

-- A delay and a target, from the values of their expressions.
delay_value : (d : Option Expr) (env : Env) →
    (held_by (optional d env).value).operand ≡ (delay_made (option_map expr_code d) env).value
delay_value None env = refl
delay_value (Some e) env = refl

target_value : (u : Option Expr) (env : Env) →
    target_in (is_some u) (optional u env).value ≡ (target_made (option_map expr_code u) env).value
target_value None env = refl
target_value (Some e) env = refl

delay_is : (d : Option Expr) (s : Walk) →
    expressed (optional d) s ≡ ended (λ _. (optional d s.env).value) (delay_made (option_map expr_code d)) s
unfolding ended
delay_is None s = refl
delay_is (Some e) s =
    let a = (expr_code e).made s.env in
    ap (λ (o : List Op). record s { ops = o; env = a.env; value = a.value })
    (sym (added_none s.guard s.ops (a.ops ++ []) ∙ added_none s.guard s.ops a.ops))

target_is : (u : Option Expr) (s : Walk) →
    expressed (optional u) s ≡ ended (λ _. (optional u s.env).value) (target_made (option_map expr_code u)) s
unfolding ended
target_is None s = refl
target_is (Some e) s =
    let a = (expr_code e).made s.env in
    ap (λ (o : List Op). record s { ops = o; env = a.env; value = a.value })
    (sym (added_none s.guard s.ops (a.ops ++ []) ∙ added_none s.guard s.ops a.ops))

abbrev swapped : Option Operand × Operand → Operand × Option Operand
swapped p = (p.1, p.0)

module _ (event : ℕ) (args : List Operand) (d u : Option Expr) (s : Walk) where
  abbrev delayed : Translation Operand
  delayed = delay_made (option_map expr_code d)

  abbrev targeted : Translation (Option Operand)
  targeted = target_made (option_map expr_code u)

  -- The first of the two.
  pub delay_first : (first : Bool) → first ≡ true →
      target_last event args u (expressed (optional d) s) ≡ finished (sent_at event args d u first) s
  unfolding ended target_last
  delay_first first is =
      ap₂ (λ (x : Operand) (z : Walk). finished (targeted >>= (λ t. sent event args x t)) z) (delay_value d s.env) (delay_is d s)
      ∙ pair (λ _. None) (optional d s.env).value delayed targeted (λ p. sent event args p.0 p.1) s
      ∙ ap (λ (b : Bool). finished (sent_at event args d u b) s) (sym is)

  pub target_first : (first some : Bool) → first ≡ false → some ≡ is_some u →
      delay_last event args some d (expressed (optional u) s) ≡ finished (sent_at event args d u first) s
  unfolding ended delay_last
  target_first first some is some_is =
      ap (λ (b : Bool). delay_last event args b d (expressed (optional u) s)) some_is
      ∙ ap₂ (λ (x : Option Operand) (z : Walk). finished (delayed >>= (λ t. sent event args t x)) z) (target_value u s.env) (target_is u s)
      ∙ pair (λ _. None) (optional u s.env).value targeted delayed (λ p. sent event args p.1 p.0) s
      ∙ through_done (λ _. None) (both_made targeted delayed) swapped (λ p. sent event args p.0 p.1) s
      ∙ ap (λ (b : Bool). finished (sent_at event args d u b) s) (sym is)

  -- The second.
  pub target_second : (delay : Operand) (some : Bool) → delay ≡ (operand_of s).operand → some ≡ is_some u →
      after_task (task_of.Last (end_of.SendTo event args delay some)) (expressed (optional u) s) ≡ target_last event args u s
  unfolding ended target_last
  target_second delay some delay_is_it some_is =
      ap₂ (λ (x : Operand) (b : Bool). after_task (task_of.Last (end_of.SendTo event args x b)) (expressed (optional u) s)) delay_is_it some_is
      ∙ ap₂ (λ (x : Option Operand) (z : Walk). finished (sent event args (operand_of s).operand x) z) (target_value u s.env) (target_is u s)
      ∙ bind (λ _. None) (optional u s.env).value targeted (sent event args (operand_of s).operand) s

  pub delay_second : (some : Bool) (to : Option Operand) → to ≡ target_in some s.value →
      after_task (task_of.Last (end_of.SendAfter event args to)) (expressed (optional d) s) ≡ delay_last event args some d s
  unfolding ended delay_last
  delay_second some to is =
      ap (λ (x : Option Operand). after_task (task_of.Last (end_of.SendAfter event args x)) (expressed (optional d) s)) is
      ∙ ap₂ (λ (x : Operand) (z : Walk). finished (sent event args x (target_in some s.value)) z) (delay_value d s.env) (delay_is d s)
      ∙ bind (λ _. None) (optional d s.env).value delayed (λ t. sent event args t (target_in some s.value)) s

-- ---- inlined calls

pub inlined_none : (held : List (ℕ × Typed)) (ss : List Stmt) (s : Walk) →
    expressed (call_made (body_code ss) held) s ≡ inlined held [] ss s
unfolding ended inlined
inlined_none held ss s = rw (append-nil held, append-nil s.ops) refl

pub inlined_next : (held : List (ℕ × Typed)) (i : ℕ) (e : Expr) (rest : List (ℕ × Expr)) (ss : List Stmt) (s : Walk) →
    inlined (held ++ (i, operand_of (expressed (expr_code e).made s)) ∷ []) rest ss (expressed (expr_code e).made s)
    ≡ inlined held ((i, e) ∷ rest) ss s
unfolding ended inlined
inlined_next held i e rest ss s =
    let x = (expr_code e).made in
    let more = given_made (given_codes rest) in
    let vs = (more (x s.env).env).value in
    ap₂ (λ (h : List (ℕ × Typed)) (z : Walk). expressed (call_made (body_code ss) h) z)
    (append_assoc held ((i, held_by (x s.env).value) ∷ []) vs)
    (then_done (λ _. None) more (λ ts. (i, held_by (x s.env).value) ∷ ts) (expressed x s)
    ∙ valued_pair (λ _. None) x more (λ p. done ((i, p.0) ∷ p.1)) s)

pub inlined_end : (held : List (ℕ × Typed)) (gs : List (ℕ × Expr)) (ss : List Stmt) (s : Walk) → length gs ≡ 0 →
    expressed (call_made (body_code ss) held) s ≡ inlined held gs ss s
inlined_end held [] ss s none = inlined_none held ss s
inlined_end held (g ∷ gs) ss s none = absurd (cc)

pub inlined_step : (held : List (ℕ × Typed)) (gs : List (ℕ × Expr)) (g : ℕ × Expr) (rest : List (ℕ × Expr)) → gs ≡ g ∷ rest →
    (ss : List Stmt) (s : Walk) →
    inlined (held ++ (g.0, operand_of (expressed (expr_code g.1).made s)) ∷ []) rest ss (expressed (expr_code g.1).made s)
    ≡ inlined held gs ss s
inlined_step held gs g rest is ss s =
    inlined_next held g.0 g.1 rest ss s ∙ ap (λ (zs : List (ℕ × Expr)). inlined held zs ss s) (sym is)

pub called : {e : Expr} (gs : List (ℕ × Expr)) (ss : List Stmt) → roll-Expr (Expr-F.Inlined gs ss) ≡ e → (s : Walk) →
    inlined [] gs ss s ≡ expressed (expr_code e).made s
unfolding ended inlined
called gs ss at s =
    bind (λ o. o) None (given_made (given_codes gs)) (call_made (body_code ss)) s ∙ of_expr (Expr-F.Inlined gs ss) at s

-- The walk where a body begins, whose caller has these notes.
pub entered : (s : Walk) (given : List (ℕ × Typed)) (ss : List Stmt) (caller : Caller) →
    s.was ≡ before caller.notes.items s.env.held → caller.answer ≡ s.env.answer →
    (env : Env) → env ≡ record s.env { held = holding s.env.held given; answer = None } → (ops : List Op) → ops ≡ s.ops →
    (was : List (Option Typed)) → was ≡ s.env.held →
    left caller (finished (body_code ss) (record s { ops = ops; env = env; was = was })) ≡ expressed (call_made (body_code ss) given) s
unfolding ended left
entered s given ss caller notes_are answer_is env env_is ops ops_is was was_is =
    let begun = record s.env { held = holding s.env.held given; answer = None } in
    let b = body_code ss begun in
    ap₂ (λ (e : Env) (o : List Op). left caller (finished (body_code ss) (record s { ops = o; env = e; was = was }))) env_is ops_is
    ∙ ap (λ (w : List (Option Typed)). left caller (finished (body_code ss) (record s { env = begun; was = w }))) was_is
    ∙ ap₂ (λ (a : Option Typed) (w : List (Option Typed)). record s {
      ops = added s.guard s.ops b.ops;
      env = record b.env { held = s.env.held; answer = a };
      was = w;
      value = b.env.answer;
    }) answer_is (sym notes_are)
