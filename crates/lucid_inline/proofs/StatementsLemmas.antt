-- The flat form of each statement, made of those of its parts.
use Rattle.std.proofs.Common.{◌≡◌, ℕ, ◌+◌, List, [], ◌∷◌, ◌++◌, Bool, true, false, Option, None, Some, length, map, drop, refl, sym, ap, ap₂, ◌∙◌, append_assoc, append-nil}
use Rattle.std.specs.Prelude.{is_some}
use Rattle.std.specs.List.{enumerate_from}
use Rattle.std.proofs.lemmas.List.{length-map, map-append}
use Rattle.lucid_core.specs.declared.body.Expr.{Expr}
use Rattle.lucid_core.specs.declared.body.Stmt.{Stmt}
use Rattle.lucid_core.specs.declared.body.Stmt.TheVariants as s
use Rattle.lucid_core.specs.declared.body.Touch.{Touch}
use Rattle.lucid_core.specs.declared.body.Expr.TheOpen.{Stmt-F}
use Rattle.lucid_core.specs.declared.body.Expr.TheViews.{roll-Stmt}
use Rattle.lucid_core.specs.declared.body.Expr.TheFolds.{fold-roll-Stmt, map-Stmt}
use Rattle.lucid_inline_spec.specs.Flat.{Flatten, Flattened, block, each, expr_step, flat_expr, flat_stmt, flat_touch, stmt_step, to_member, touch_step, width_in}
use Rattle.lucid_inline.specs.Bodies.{all_valued, both_valued, branched, done, if_valued, last, opened, place, ran, sent_to_each, sent_to_one, valued, with_stmt}
use Rattle.lucid_inline.specs.Sites.{assigned, flattened, sent, sent_to_all}
use Rattle.lucid_inline.specs.declared.machine.Machine.{Machine}
use Rattle.lucid_inline.proofs.ExpressionsLemmas.{last_is, rest_is}

abbrev Part : Type 0
Part = Stmt-F Expr Stmt Touch

-- The flat form of a statement that is made of these parts.
folded : (y : Part) (x : Stmt) → roll-Stmt y ≡ x → flat_stmt x ≡ stmt_step (map-Stmt Expr Stmt Touch (Flatten Expr) (Flatten (List Stmt)) (Flatten Touch) flat_expr flat_stmt flat_touch y)
folded y x is = ap flat_stmt (sym is) ∙ fold-roll-Stmt (Flatten Expr) (Flatten (List Stmt)) (Flatten Touch) expr_step stmt_step touch_step y

-- The machine with these statements at the end of the block, these locals, and these operands.
abbrev with_stmts : Machine → List Expr → Flattened (List Stmt) → Machine
with_stmts m made r = record m { locals = r.locals; operands = made; block = m.block ++ r.value }

map-map : {A B C : Type 0} (g : A → B) (h : B → C) (xs : List A) → map h (map g xs) ≡ map (λ x. h (g x)) xs
map-map g h [] = refl
map-map g h (x ∷ xs) = ap (λ q. h (g x) ∷ q) (map-map g h xs)

made_of : (event b n : ℕ) (delayed : Bool) (held : List Expr) (members : List ℕ) →
    map roll-Stmt (map (λ (g : ℕ × Expr). Stmt-F.Assign g.0 g.1) (enumerate_from b held) ++ map (to_member event b n delayed) members) ≡ assigned b held ++ sent event b n delayed members
made_of event b n delayed held members =
    map-append roll-Stmt (map (λ (g : ℕ × Expr). Stmt-F.Assign g.0 g.1) (enumerate_from b held)) (map (to_member event b n delayed) members)
    ∙ ap₂ (λ (xs ys : List Stmt). xs ++ ys) (map-map (λ (g : ℕ × Expr). Stmt-F.Assign g.0 g.1) roll-Stmt (enumerate_from b held)) (map-map (to_member event b n delayed) roll-Stmt members)

each_last : (ts : List (Flatten Expr)) (t : Flatten Expr) (p : _) (ws : List ℕ) → each (ts ++ t ∷ []) p ws ≡
    (let one = each ts p ws in let end = t p one.locals in record { value = one.value ++ end.value ∷ []; locals = end.locals })
each_last [] t p ws = refl
each_last (x ∷ ts) t p ws = let first = x p ws in ap (λ (m : Flattened (List Expr)). record { value = first.value ∷ m.value; locals = m.locals }) (each_last ts t p first.locals)

module _ (m : Machine) where
  -- ---- blocks

  pub ran_none : (xs : List Stmt) → length xs ≡ 0 → m ≡ ran xs m
  ran_none [] none = ap (λ (q : List Stmt). record m { block = q }) (sym (append-nil m.block))
  ran_none (x ∷ xs) none = absurd (cc)

  pub ran_next : (x : Stmt) (rest : List Stmt) → ran rest (done x m) ≡ ran (x ∷ rest) m
  ran_next x rest =
      let r = flat_stmt x (place m) m.locals in
      let q = block (map flat_stmt rest) (place m) r.locals in
      ap (λ (ss : List Stmt). record m { locals = q.locals; block = ss }) (append_assoc m.block r.value q.value)

  -- ---- statements

  -- A statement whose flat form is this one alone.
  alone : (x made : Stmt) (y given : Part) (us : List ℕ) → roll-Stmt y ≡ x → roll-Stmt given ≡ made →
      flattened (map roll-Stmt (given ∷ [])) us ≡ stmt_step (map-Stmt Expr Stmt Touch (Flatten Expr) (Flatten (List Stmt)) (Flatten Touch) flat_expr flat_stmt flat_touch y) (place m) m.locals →
      with_stmts m m.operands (flattened (made ∷ []) us) ≡ done x m
  alone x made y given us is rolls h =
      ap (λ (q : Stmt). with_stmts m m.operands (flattened (q ∷ []) us)) (sym rolls)
      ∙ ap (with_stmts m m.operands) h
      ∙ sym (ap (λ (t : Flatten (List Stmt)). with_stmts m m.operands (t (place m) m.locals)) (folded y x is))

  pub assign_done : (i : ℕ) (x : Expr) → with_stmts m m.operands (let r = flat_expr x (place m) m.locals in flattened (s.Assign (m.first + i) r.value ∷ []) r.locals) ≡ done (s.Assign i x) m
  assign_done i x =
      let r = flat_expr x (place m) m.locals in
      alone (s.Assign i x) (s.Assign (m.first + i) r.value) (Stmt-F.Assign i x) (Stmt-F.Assign (m.first + i) r.value) r.locals (s.rolls-Assign i x) (s.rolls-Assign (m.first + i) r.value) refl

  pub drop_done : (x : Expr) → with_stmts m m.operands (let r = flat_expr x (place m) m.locals in flattened (s.Drop r.value ∷ []) r.locals) ≡ done (s.Drop x) m
  drop_done x =
      let r = flat_expr x (place m) m.locals in
      alone (s.Drop x) (s.Drop r.value) (Stmt-F.Drop x) (Stmt-F.Drop r.value) r.locals (s.rolls-Drop x) (s.rolls-Drop r.value) refl

  pub return_done : (x : Expr) → with_stmts m m.operands (let r = flat_expr x (place m) m.locals in flattened (s.Return (Some r.value) ∷ []) r.locals) ≡ done (s.Return (Some x)) m
  return_done x =
      let r = flat_expr x (place m) m.locals in
      alone (s.Return (Some x)) (s.Return (Some r.value)) (Stmt-F.Return (Some x)) (Stmt-F.Return (Some r.value)) r.locals (s.rolls-Return (Some x)) (s.rolls-Return (Some r.value)) refl

  pub end_done : with_stmt (s.Return None) m.operands m ≡ done (s.Return None) m
  end_done = alone (s.Return None) (s.Return None) (Stmt-F.Return None) (Stmt-F.Return None) m.locals (s.rolls-Return None) (s.rolls-Return None) refl

  pub if_done : (x : Expr) (ss ts : List Stmt) → (let after = ran ts (opened (ran ss (opened (valued x m)))) in branched after.operands after.outer after) ≡ done (s.If x ss ts) m
  if_done x ss ts =
      let r = flat_expr x (place m) m.locals in
      let us = block (map flat_stmt ss) (place m) r.locals in
      let vs = block (map flat_stmt ts) (place m) us.locals in
      alone (s.If x ss ts) (s.If r.value us.value vs.value) (Stmt-F.If x ss ts) (Stmt-F.If r.value us.value vs.value) vs.locals (s.rolls-If x ss ts) (s.rolls-If r.value us.value vs.value) refl

  pub say_done : (form n : ℕ) (xs : List Expr) → n ≡ length xs → (let after = all_valued xs m in with_stmt (s.Say form (last n after.operands)) (drop n after.operands) after) ≡ done (s.Say form xs) m
  say_done form n xs is =
      let r = each (map flat_expr xs) (place m) m.locals in
      ap₂ (λ (args made : List Expr). with_stmts m made (flattened (s.Say form args ∷ []) r.locals)) (last_is m xs n is) (rest_is m xs n is)
      ∙ alone (s.Say form xs) (s.Say form r.value) (Stmt-F.Say form xs) (Stmt-F.Say form r.value) r.locals (s.rolls-Say form xs) (s.rolls-Say form r.value) refl

  -- ---- events to one switch

  gen_made : (event n : ℕ) (xs : List Expr) (d t x y : Option Expr) (b : Bool) (us : List ℕ) → n ≡ length xs →
      roll-Stmt (Stmt-F.Gen event xs d t b) ≡ s.Gen event xs d t b →
      flattened (map roll-Stmt (Stmt-F.Gen event (each (map flat_expr xs) (place m) m.locals).value x y b ∷ [])) us
      ≡ stmt_step (map-Stmt Expr Stmt Touch (Flatten Expr) (Flatten (List Stmt)) (Flatten Touch) flat_expr flat_stmt flat_touch (Stmt-F.Gen event xs d t b)) (place m) m.locals →
      with_stmts m (drop n (all_valued xs m).operands) (flattened (s.Gen event (last n (all_valued xs m).operands) x y b ∷ []) us) ≡ done (s.Gen event xs d t b) m
  gen_made event n xs d t x y b us is rolls h =
      let r = each (map flat_expr xs) (place m) m.locals in
      ap₂ (λ (args made : List Expr). with_stmts m made (flattened (s.Gen event args x y b ∷ []) us)) (last_is m xs n is) (rest_is m xs n is)
      ∙ alone (s.Gen event xs d t b) (s.Gen event r.value x y b) (Stmt-F.Gen event xs d t b) (Stmt-F.Gen event r.value x y b) us rolls (s.rolls-Gen event r.value x y b) h

  abbrev args_of : List Expr → List ℕ
  args_of xs = (each (map flat_expr xs) (place m) m.locals).locals

  pub gen_done : (event n : ℕ) (xs : List Expr) (d t : Option Expr) (b : Bool) → n ≡ length xs →
      sent_to_one event n (is_some d) (is_some t) b (both_valued b d t (all_valued xs m)) ≡ done (s.Gen event xs d t b) m
  gen_done event n xs None None true is = gen_made event n xs None None None None true (args_of xs) is (s.rolls-Gen event xs None None true) refl
  gen_done event n xs None None false is = gen_made event n xs None None None None false (args_of xs) is (s.rolls-Gen event xs None None false) refl
  gen_done event n xs (Some x) None true is =
      let r = flat_expr x (place m) (args_of xs) in
      gen_made event n xs (Some x) None (Some r.value) None true r.locals is (s.rolls-Gen event xs (Some x) None true) refl
  gen_done event n xs (Some x) None false is =
      let r = flat_expr x (place m) (args_of xs) in
      gen_made event n xs (Some x) None (Some r.value) None false r.locals is (s.rolls-Gen event xs (Some x) None false) refl
  gen_done event n xs None (Some y) true is =
      let r = flat_expr y (place m) (args_of xs) in
      gen_made event n xs None (Some y) None (Some r.value) true r.locals is (s.rolls-Gen event xs None (Some y) true) refl
  gen_done event n xs None (Some y) false is =
      let r = flat_expr y (place m) (args_of xs) in
      gen_made event n xs None (Some y) None (Some r.value) false r.locals is (s.rolls-Gen event xs None (Some y) false) refl
  gen_done event n xs (Some x) (Some y) true is =
      let r = flat_expr x (place m) (args_of xs) in
      let q = flat_expr y (place m) r.locals in
      gen_made event n xs (Some x) (Some y) (Some r.value) (Some q.value) true q.locals is (s.rolls-Gen event xs (Some x) (Some y) true) refl
  gen_done event n xs (Some x) (Some y) false is =
      let r = flat_expr y (place m) (args_of xs) in
      let q = flat_expr x (place m) r.locals in
      gen_made event n xs (Some x) (Some y) (Some q.value) (Some r.value) false q.locals is (s.rolls-Gen event xs (Some x) (Some y) false) refl

  -- ---- events to several switches

  abbrev group_of : ℕ → ℕ → Bool → List ℕ → List (Flatten Expr) → Flattened (List Stmt)
  group_of event n delayed members ts = let first = each ts (place m) m.locals in flattened
      (map roll-Stmt (map (λ (g : ℕ × Expr). Stmt-F.Assign g.0 g.1) (enumerate_from (length first.locals) first.value) ++ map (to_member event (length first.locals) n delayed) members))
      (first.locals ++ map (width_in first.locals) first.value)

  -- A group whose values are these.
  multi_made : (event n k : ℕ) (delayed : Bool) (members : List ℕ) (ts : List (Flatten Expr)) (held : List Expr) (mid : List ℕ) (x : Stmt) → n ≡ k → flattened held mid ≡ each ts (place m) m.locals →
      flat_stmt x (place m) m.locals ≡ group_of event k delayed members ts → with_stmts m m.operands (sent_to_all event n delayed members held mid) ≡ done x m
  multi_made event n k delayed members ts held mid x many h is =
      let first = each ts (place m) m.locals in
      ap (λ (q : ℕ). with_stmts m m.operands (sent_to_all event q delayed members held mid)) many
      ∙ ap (λ (f : Flattened (List Expr)). with_stmts m m.operands (sent_to_all event k delayed members f.value f.locals)) h
      ∙ ap (λ (q : List Stmt). with_stmts m m.operands (flattened q (first.locals ++ map (width_in first.locals) first.value))) (sym (made_of event (length first.locals) k delayed first.value members))
      ∙ sym (ap (with_stmts m m.operands) is)

  pub multi_done : (event n : ℕ) (xs : List Expr) (d : Option Expr) (members : List ℕ) → n ≡ length xs →
      (let after = if_valued d (all_valued xs m) in sent_to_each event n (is_some d) members after.operands after) ≡ done (s.Multi event xs d members) m
  multi_done event n xs None members is =
      let r = each (map flat_expr xs) (place m) m.locals in
      ap₂ (λ (held made : List Expr). with_stmts m made (sent_to_all event n false members held r.locals)) (last_is m xs n is) (rest_is m xs n is)
      ∙ multi_made event n (length (map flat_expr xs)) false members (map flat_expr xs ++ []) r.value r.locals (s.Multi event xs None members) (is ∙ sym (length-map xs flat_expr))
      (ap (λ (ts : List (Flatten Expr)). each ts (place m) m.locals) (sym (append-nil (map flat_expr xs))))
      (ap (λ (t : Flatten (List Stmt)). t (place m) m.locals) (folded (Stmt-F.Multi event xs None members) (s.Multi event xs None members) (s.rolls-Multi event xs None members)))
  multi_done event n xs (Some x) members is =
      let r = each (map flat_expr xs) (place m) m.locals in
      let q = flat_expr x (place m) r.locals in
      ap₂ (λ (args made : List Expr). with_stmts m made (sent_to_all event n true members (args ++ q.value ∷ []) q.locals)) (last_is m xs n is) (rest_is m xs n is)
      ∙ multi_made event n (length (map flat_expr xs)) true members (map flat_expr xs ++ flat_expr x ∷ []) (r.value ++ q.value ∷ []) q.locals (s.Multi event xs (Some x) members) (is ∙ sym (length-map xs flat_expr))
      (sym (each_last (map flat_expr xs) (flat_expr x) (place m) m.locals))
      (ap (λ (t : Flatten (List Stmt)). t (place m) m.locals) (folded (Stmt-F.Multi event xs (Some x) members) (s.Multi event xs (Some x) members) (s.rolls-Multi event xs (Some x) members)))
