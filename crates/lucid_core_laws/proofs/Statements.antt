-- Each rule for a statement or a block, given that its parts keep it.
use Rattle.std.proofs.Common.{◌≡◌, ℕ, List, [], ◌∷◌, ◌++◌, Option, None, Some, Bool, true, false, not, ◌&&◌, ◌||◌, length, map, nat_eq, nat_le, refl, sym, ap, ◌∙◌, slice_get, option_to_list}
use Rattle.std.specs.List.{list_all}
use Rattle.std.specs.Option.{option_map, option_map_or, option_eq}
use Rattle.std.proofs.lemmas.Bool.{and_from, and_parts, eq-eqb}
use Rattle.std.proofs.lemmas.List.{length-map}
use Rattle.lucid_core.specs.declared.body.Expr.{Expr}
use Rattle.lucid_core.specs.declared.body.Stmt.{Stmt}
use Rattle.lucid_core.specs.declared.body.Touch.{Touch}
use Rattle.lucid_core.specs.declared.body.Expr.TheOpen.{Stmt-F}
use Rattle.lucid_core.specs.declared.body.Expr.TheViews.{roll-Stmt}
use Rattle.lucid_core.specs.declared.body.Expr.TheFolds.{fold-roll-Stmt, map-Stmt}
use Rattle.lucid_core.specs.Assigned as flow
use Rattle.lucid_core.specs.Assigned.{Flow, all_read_assigned, expr_flow, stmt_flow, touch_flow}
use Rattle.lucid_core.specs.Limits as limits
use Rattle.lucid_core.specs.Limits.{are_members, expr_limits, stmt_limits, touch_limits}
use Rattle.lucid_core.specs.Names as names
use Rattle.lucid_core.specs.Names.{expr_names, stmt_names, touch_names}
use Rattle.lucid_core.specs.Numbers.{all_hold}
use Rattle.lucid_core.specs.Returns as returns
use Rattle.lucid_core.specs.Returns.{Returns, is_end, expr_returns, stmt_returns, touch_returns}
use Rattle.lucid_core.specs.Scope.{Test, each}
use Rattle.lucid_core.specs.Syntax as syntax
use Rattle.lucid_core.specs.Texts as texts
use Rattle.lucid_core.specs.Texts.{Printed, each_filled, expr_texts, holes_of, stmt_texts, touch_texts}
use Rattle.lucid_core.specs.Typing as typing
use Rattle.lucid_core.specs.Typing.{Answer, Typed, answer_of, joined, returns_of, touch_answer, values}
use Rattle.lucid_core.specs.declared.ending.Ending.{Ending}
use Rattle.lucid_core.specs.declared.ending.Ending.TheVariants.{Never, Sometimes, Always}
use Rattle.lucid_core_laws.specs.Allowed as allowed
use Rattle.lucid_core_laws.specs.Allowed.{expr_allowed, stmt_allowed, touch_allowed}
use Rattle.lucid_core.specs.Endings.{of_either, on_every_path, on_some_path}
use Rattle.lucid_core.specs.Few as few
use Rattle.lucid_core.specs.Few.{expr_few, stmt_few, touch_few}
use Rattle.lucid_core_laws.specs.Keeps.{KeepsAll, KeepsBlock, KeepsRules, KeepsStmt, MayKeep}
use Rattle.lucid_core_laws.specs.Place.{Place, behind}
use Rattle.lucid_core_laws.specs.StmtNodes.{IsEvent, StmtNodes}
use Rattle.lucid_core_laws.proofs.Parts.{both_lists, is_below, joined_parts, just, listed, of_both, same_width, same_widths}

-- The results of the rules for a statement, by their results for its parts.
abbrev AtStmt : Place → Answer → Ending → List ℕ → Stmt-F Expr Stmt Touch → Type 0
AtStmt p a r k y = KeepsRules p a r k
    (names.stmt_step (map-Stmt Expr Stmt Touch Test Test Test expr_names stmt_names touch_names y))
    (typing.stmt_step (map-Stmt Expr Stmt Touch (Typed Answer) (Typed (List Answer)) (Typed Answer) answer_of returns_of touch_answer y))
    (returns.stmt_step (map-Stmt Expr Stmt Touch Returns Returns Returns expr_returns stmt_returns touch_returns y))
    (flow.stmt_step (map-Stmt Expr Stmt Touch Flow Flow Flow expr_flow stmt_flow touch_flow y))
    (few.stmt_step (map-Stmt Expr Stmt Touch Bool Bool Bool expr_few stmt_few touch_few y))
    (limits.stmt_step (map-Stmt Expr Stmt Touch Bool Bool Bool expr_limits stmt_limits touch_limits y))
    (texts.stmt_step (map-Stmt Expr Stmt Touch Printed Printed Printed expr_texts stmt_texts touch_texts y))
    (allowed.stmt_step p.flat (map-Stmt Expr Stmt Touch Bool Bool Bool (expr_allowed p.flat) (stmt_allowed p.flat) (touch_allowed p.flat) y))

-- Here the folds are opened, for all forms at once.
of_stmt : (p : Place) (a : Answer) (r : Ending) (k : List ℕ) (y : Stmt-F Expr Stmt Touch) → AtStmt p a r k y → KeepsStmt p a r k (roll-Stmt y)
of_stmt p a r k y h =
    let back = fold-roll-Stmt Returns Returns Returns returns.expr_step returns.stmt_step returns.touch_step y in
    let along = fold-roll-Stmt Flow Flow Flow flow.expr_step flow.stmt_step flow.touch_step y in
    let counted = fold-roll-Stmt Bool Bool Bool few.expr_step few.stmt_step few.touch_step y in
    record {
      named = ap (λ (f : Test). f p.scope) (fold-roll-Stmt Test Test Test names.expr_step names.stmt_step names.touch_step y) ∙ h.named;
      given = h.given;
      typed = ap (λ (f : Typed (List Answer)). f p.scope) (fold-roll-Stmt (Typed Answer) (Typed (List Answer)) (Typed Answer) typing.expr_step typing.stmt_step typing.touch_step y) ∙ h.typed;
      only = h.only;
      seen = h.seen;
      last = ap (λ (q : Returns). q.last) back ∙ h.last;
      some = ap (λ (q : Returns). q.some) back ∙ h.some;
      always = ap (λ (q : Returns). q.always) back ∙ h.always;
      value = λ e. ap (λ (q : Returns). q.value) back ∙ h.value e;
      reads = ap (λ (f : Flow). f.reads_assigned p.known) along ∙ h.reads;
      assigns = ap (λ (f : Flow). f.assigns) along ∙ h.assigns;
      limited = λ q. fold-roll-Stmt Bool Bool Bool limits.expr_step limits.stmt_step limits.touch_step y ∙ h.limited (sym counted ∙ q);
      filled = ap (λ (f : Printed). f p.scope.forms) (fold-roll-Stmt Printed Printed Printed texts.expr_step texts.stmt_step texts.touch_step y) ∙ h.filled;
      formed = fold-roll-Stmt Bool Bool Bool (allowed.expr_step p.flat) (allowed.stmt_step p.flat) syntax.touch_step y ∙ h.formed;
    }

-- ---- returns

never : on_every_path Never ≡ true → is_end {A = Answer} [] ≡ false
never h = absurd (cc)

some_of_first : {A : Type 0} (xs ys : List A) → is_end xs ≡ false → is_end (xs ++ ys) ≡ false
some_of_first [] ys h = absurd (cc)
some_of_first (x ∷ xs) ys h = refl

some_of_second : {A : Type 0} (xs ys : List A) → is_end ys ≡ false → is_end (xs ++ ys) ≡ false
some_of_second [] ys h = h
some_of_second (x ∷ xs) ys h = refl

or_false : (b : Bool) → (b || false) ≡ b
or_false true = refl
or_false false = refl

or_true : (b : Bool) → (b || true) ≡ true
or_true true = refl
or_true false = refl

on_some_of : (r q : Ending) → (on_some_path r || on_some_path q) ≡ on_some_path (of_either r q)
on_some_of Never Never = refl
on_some_of Never Sometimes = refl
on_some_of Never Always = refl
on_some_of Sometimes q = refl
on_some_of Always Never = refl
on_some_of Always Sometimes = refl
on_some_of Always Always = refl

on_every_of : (r q : Ending) → (on_every_path r && on_every_path q) ≡ on_every_path (of_either r q)
on_every_of Never Never = refl
on_every_of Never Sometimes = refl
on_every_of Never Always = refl
on_every_of Sometimes q = refl
on_every_of Always Never = refl
on_every_of Always Sometimes = refl
on_every_of Always Always = refl

-- ---- blocks

empty : (p : Place) (a : Answer) → KeepsBlock p a Never []
empty p a = record { named = refl; given = []; typed = refl; only = refl; seen = never; last = refl; some = refl; always = refl; value = λ e. refl; reads = refl; limited = λ h. refl; filled = refl; formed = refl }

first : (p : Place) (a : Answer) (r : Ending) (k : List ℕ) (x : Stmt) (xs : List Stmt) → KeepsStmt p a Never k x → KeepsBlock (behind p k) a r xs → KeepsBlock p a r (x ∷ xs)
first p a r k x xs f fs = record {
  named = and_from _ _ f.named fs.named;
  given = f.given ∷ fs.given;
  typed = rw (f.typed, fs.typed) refl;
  only = both_lists (option_eq nat_eq a) f.given (joined fs.given) f.only fs.only;
  seen = λ h. some_of_second f.given (joined fs.given) (fs.seen h);
  last = rw (f.last, f.some, fs.last) refl;
  some = rw (f.some, fs.some) refl;
  always = rw (f.always, fs.always) refl;
  value = λ e. rw (f.value e, fs.value e) refl;
  reads = and_from _ _ f.reads (rw f.assigns fs.reads);
  limited = λ h. let parts = and_parts _ _ h in and_from _ _ (f.limited parts.0) (fs.limited parts.1);
  filled = and_from _ _ f.filled fs.filled;
  formed = and_from _ _ f.formed fs.formed;
}

last : (p : Place) (a : Answer) (r : Ending) (k : List ℕ) (x : Stmt) → KeepsStmt p a r k x → KeepsBlock p a r (x ∷ [])
last p a r k x f = record {
  named = and_from _ _ f.named refl;
  given = f.given ∷ [];
  typed = rw f.typed refl;
  only = both_lists (option_eq nat_eq a) f.given [] f.only refl;
  seen = λ h. some_of_first f.given [] (f.seen h);
  last = rw (f.last, or_true (not (stmt_returns x).some)) refl;
  some = or_false (stmt_returns x).some ∙ f.some;
  always = or_false (stmt_returns x).always ∙ f.always;
  value = λ e. or_false (stmt_returns x).value ∙ f.value e;
  reads = and_from _ _ f.reads refl;
  limited = λ h. and_from _ _ (f.limited (and_parts _ _ h).0) refl;
  filled = and_from _ _ f.filled refl;
  formed = and_from _ _ f.formed refl;
}

-- ---- an event

-- The parts of an event and of an event to a group.
abbrev parts_of : {A : Type 0} → List A → Option A → Option A → List A
parts_of xs delay to = (xs ++ option_to_list delay) ++ option_to_list to

parts_map : {A : Type 0} (f : Expr → A) (xs : List Expr) (delay to : Option Expr) → map f (parts_of xs delay to) ≡ parts_of (map f xs) (option_map f delay) (option_map f to)
parts_map f [] None None = refl
parts_map f [] None (Some y) = refl
parts_map f [] (Some x) None = refl
parts_map f [] (Some x) (Some y) = refl
parts_map f (x ∷ xs) delay to = ap (λ fs. f x ∷ fs) (parts_map f xs delay to)

-- Operands that may be left out have widths.
operands : (p : Place) (o : Option Expr) → MayKeep p o → (ws : List ℕ) × KeepsAll p ws (option_to_list o)
operands p None h = ([], tt)
operands p (Some c) h = (h.0 ∷ [], (h.1, tt))

operands_typed : (p : Place) (delay to : Option Expr) (vs us : List ℕ) → KeepsAll p vs (option_to_list delay) → KeepsAll p us (option_to_list to) →
    values (option_to_list (option_map answer_of delay) ++ option_to_list (option_map answer_of to)) p.scope ≡ Some (vs ++ us)
operands_typed p None None [] [] h k = refl
operands_typed p None (Some y) [] us h k = (listed p us (y ∷ []) k).typed
operands_typed p (Some x) None vs [] h k = (listed p (vs ++ []) (x ∷ []) (joined_parts p vs [] (x ∷ []) [] h tt)).typed
operands_typed p (Some x) (Some y) vs us h k = (listed p (vs ++ us) (x ∷ y ∷ []) (joined_parts p vs us (x ∷ []) (y ∷ []) h k)).typed
operands_typed p None None (v ∷ vs) us h k = absurd h
operands_typed p None None [] (u ∷ us) h k = absurd k
operands_typed p None (Some y) (v ∷ vs) us h k = absurd h
operands_typed p (Some x) None vs (u ∷ us) h k = absurd k

-- The results of the rules for an event, if each operand is the result of a rule for it.
abbrev AtGen : Place → Answer → ℕ → List Expr → Option Expr → Option Expr → Bool → Type 0
AtGen p a event cs delay to first = KeepsRules p a Never []
    (names.stmt_step (Stmt-F.Gen event (map expr_names cs) (option_map expr_names delay) (option_map expr_names to) first))
    (typing.stmt_step (Stmt-F.Gen event (map answer_of cs) (option_map answer_of delay) (option_map answer_of to) first))
    (returns.stmt_step (Stmt-F.Gen event (map expr_returns cs) (option_map expr_returns delay) (option_map expr_returns to) first))
    (flow.stmt_step (Stmt-F.Gen event (map expr_flow cs) (option_map expr_flow delay) (option_map expr_flow to) first))
    (few.stmt_step (Stmt-F.Gen event (map expr_few cs) (option_map expr_few delay) (option_map expr_few to) first))
    (limits.stmt_step (Stmt-F.Gen event (map expr_limits cs) (option_map expr_limits delay) (option_map expr_limits to) first))
    (texts.stmt_step (Stmt-F.Gen event (map expr_texts cs) (option_map expr_texts delay) (option_map expr_texts to) first))
    (allowed.stmt_step p.flat (Stmt-F.Gen event (map (expr_allowed p.flat) cs) (option_map (expr_allowed p.flat) delay) (option_map (expr_allowed p.flat) to) first))

at_gen : (p : Place) (a : Answer) (event : ℕ) (ws : List ℕ) (cs : List Expr) (delay to : Option Expr) (first : Bool) → IsEvent p event ws → KeepsAll p ws cs → MayKeep p delay → MayKeep p to → AtGen p a event cs delay to first
at_gen p a event ws cs delay to first is all d t =
    let own = listed p ws cs all in
    let ds = operands p delay d in
    let ts = operands p to t in
    let parts = listed p ((ws ++ ds.0) ++ ts.0) (parts_of cs delay to)
    (joined_parts p (ws ++ ds.0) ts.0 (cs ++ option_to_list delay) (option_to_list to) (joined_parts p ws ds.0 cs (option_to_list delay) all ds.1) ts.1) in
    record {
      named = and_from _ _ (is_below p.scope.events event ws is.there) (ap (λ fs. each fs p.scope) (sym (parts_map expr_names cs delay to)) ∙ parts.named);
      given = [];
      typed = rw (is.there, own.typed, same_widths ws, operands_typed p delay to ds.0 ts.0 ds.1 ts.1) refl;
      only = refl;
      seen = never;
      last = ap (λ (rs : List Returns). list_all (λ r. r.last) rs) (sym (parts_map expr_returns cs delay to)) ∙ parts.last;
      some = refl;
      always = refl;
      value = λ e. refl;
      reads = ap (λ (fs : List Flow). all_read_assigned fs p.known) (sym (parts_map expr_flow cs delay to)) ∙ parts.reads;
      assigns = refl;
      limited = λ h. and_from _ _ (ap (λ n. nat_le n 8) (length-map cs expr_limits ∙ own.count) ∙ is.few)
          (ap all_hold (sym (parts_map expr_limits cs delay to)) ∙ parts.limited (ap all_hold (parts_map expr_few cs delay to) ∙ h));
      filled = ap (λ (fs : List Printed). each_filled fs p.scope.forms) (sym (parts_map expr_texts cs delay to)) ∙ parts.filled;
      formed = ap all_hold (sym (parts_map (expr_allowed p.flat) cs delay to)) ∙ parts.formed;
    }

-- An operand that is there or not is, to a rule, there or not.
at_gen_is : (p : Place) (a : Answer) (event : ℕ) (cs : List Expr) (delay to : Option Expr) (first : Bool) → AtGen p a event cs delay to first → AtStmt p a Never [] (Stmt-F.Gen event cs delay to first)
at_gen_is p a event cs None None first h = h
at_gen_is p a event cs None (Some y) first h = h
at_gen_is p a event cs (Some x) None first h = h
at_gen_is p a event cs (Some x) (Some y) first h = h

-- ---- an event to each member of a group

abbrev AtMulti : Place → Answer → ℕ → List Expr → Option Expr → List ℕ → Type 0
AtMulti p a event cs delay members = KeepsRules p a Never []
    (names.stmt_step (Stmt-F.Multi event (map expr_names cs) (option_map expr_names delay) members))
    (typing.stmt_step (Stmt-F.Multi event (map answer_of cs) (option_map answer_of delay) members))
    (returns.stmt_step (Stmt-F.Multi event (map expr_returns cs) (option_map expr_returns delay) members))
    (flow.stmt_step (Stmt-F.Multi event (map expr_flow cs) (option_map expr_flow delay) members))
    (few.stmt_step (Stmt-F.Multi event (map expr_few cs) (option_map expr_few delay) members))
    (limits.stmt_step (Stmt-F.Multi event (map expr_limits cs) (option_map expr_limits delay) members))
    (texts.stmt_step (Stmt-F.Multi event (map expr_texts cs) (option_map expr_texts delay) members))
    (allowed.stmt_step p.flat (Stmt-F.Multi event (map (expr_allowed p.flat) cs) (option_map (expr_allowed p.flat) delay) members))

front_map : {A : Type 0} (f : Expr → A) (xs : List Expr) (delay : Option Expr) → map f (xs ++ option_to_list delay) ≡ map f xs ++ option_to_list (option_map f delay)
front_map f [] None = refl
front_map f [] (Some x) = refl
front_map f (x ∷ xs) delay = ap (λ fs. f x ∷ fs) (front_map f xs delay)

delay_typed : (p : Place) (delay : Option Expr) (vs : List ℕ) → KeepsAll p vs (option_to_list delay) → values (option_to_list (option_map answer_of delay)) p.scope ≡ Some vs
delay_typed p None [] h = refl
delay_typed p None (v ∷ vs) h = absurd h
delay_typed p (Some x) vs h = (listed p vs (x ∷ []) h).typed

at_multi : (p : Place) (a : Answer) (event : ℕ) (ws : List ℕ) (cs : List Expr) (delay : Option Expr) (members : List ℕ) → p.flat ≡ false → IsEvent p event ws → are_members members ≡ true → KeepsAll p ws cs → MayKeep p delay →
    AtMulti p a event cs delay members
at_multi p a event ws cs delay members core is few all d =
    let own = listed p ws cs all in
    let ds = operands p delay d in
    let parts = listed p (ws ++ ds.0) (cs ++ option_to_list delay) (joined_parts p ws ds.0 cs (option_to_list delay) all ds.1) in
    record {
      named = and_from _ _ (is_below p.scope.events event ws is.there) (ap (λ fs. each fs p.scope) (sym (front_map expr_names cs delay)) ∙ parts.named);
      given = [];
      typed = rw (is.there, own.typed, same_widths ws, delay_typed p delay ds.0 ds.1) refl;
      only = refl;
      seen = never;
      last = ap (λ (rs : List Returns). list_all (λ r. r.last) rs) (sym (front_map expr_returns cs delay)) ∙ parts.last;
      some = refl;
      always = refl;
      value = λ e. refl;
      reads = ap (λ (fs : List Flow). all_read_assigned fs p.known) (sym (front_map expr_flow cs delay)) ∙ parts.reads;
      assigns = refl;
      limited = λ h. and_from _ _ (and_from _ _ (ap (λ n. nat_le n 8) (length-map cs expr_limits ∙ own.count) ∙ is.few) few)
          (ap all_hold (sym (front_map expr_limits cs delay)) ∙ parts.limited (ap all_hold (front_map expr_few cs delay) ∙ h));
      filled = ap (λ (fs : List Printed). each_filled fs p.scope.forms) (sym (front_map expr_texts cs delay)) ∙ parts.filled;
      formed = and_from _ _ (ap (λ b. not b) core) (ap all_hold (sym (front_map (expr_allowed p.flat) cs delay)) ∙ parts.formed);
    }

at_multi_is : (p : Place) (a : Answer) (event : ℕ) (cs : List Expr) (delay : Option Expr) (members : List ℕ) → AtMulti p a event cs delay members → AtStmt p a Never [] (Stmt-F.Multi event cs delay members)
at_multi_is p a event cs None members h = h
at_multi_is p a event cs (Some x) members h = h

-- ---- a print

say_limit : (n m : ℕ) (few rest : Bool) → m ≡ n → (few ≡ true → rest ≡ true) → nat_le m 8 && few ≡ true → nat_le n 8 && rest ≡ true
say_limit n m few rest e f h = let parts = and_parts (nat_le m 8) few h in and_from _ _ (ap (λ x. nat_le x 8) (sym e) ∙ parts.0) (f parts.1)

text_is_filled : (forms : List (List ℕ)) (i n k : ℕ) (t : List ℕ) (all : Bool) → slice_get forms i ≡ Some t → n ≡ holes_of t → k ≡ n → all ≡ true → option_map_or (λ text. nat_eq k (holes_of text)) (slice_get forms i) false && all ≡ true
text_is_filled forms i n k t all there filled e h = and_from _ _ (rw there (eq-eqb k (holes_of t) (e ∙ filled))) h

-- ---- all forms

pub stmt_nodes : StmtNodes
stmt_nodes = record {
  assign = λ p a i w c there x. let xs = just p w c x in of_stmt p a Never (i ∷ []) (Stmt-F.Assign i c) (record {
    named = and_from _ _ (is_below p.scope.locals i w there) x.named;
    given = [];
    typed = rw (x.typed, there, same_width w) refl;
    only = refl;
    seen = never;
    last = xs.last;
    some = refl;
    always = refl;
    value = λ e. refl;
    reads = x.reads;
    assigns = refl;
    limited = xs.limited;
    filled = xs.filled;
    formed = xs.formed;
  });
  drop_value = λ p a b c x. of_stmt p a Never [] (Stmt-F.Drop c) (record {
    named = and_from _ _ x.named refl;
    given = [];
    typed = rw x.typed refl;
    only = refl;
    seen = never;
    last = and_from _ _ x.last refl;
    some = refl;
    always = refl;
    value = λ e. refl;
    reads = and_from _ _ x.reads refl;
    assigns = refl;
    limited = λ h. and_from _ _ (x.limited (and_parts _ _ h).0) refl;
    filled = and_from _ _ x.filled refl;
    formed = and_from _ _ x.formed refl;
  });
  choose = λ p a r q c ss ts x one two. of_stmt p a (of_either r q) [] (Stmt-F.If c ss ts) (record {
    named = and_from _ _ x.named (both_lists (λ test. test p.scope) (map stmt_names ss) (map stmt_names ts) one.named two.named);
    given = joined one.given ++ joined two.given;
    typed = rw (x.typed, one.typed, two.typed) refl;
    only = both_lists (option_eq nat_eq a) (joined one.given) (joined two.given) one.only two.only;
    seen = λ h. some_of_first (joined one.given) (joined two.given) (one.seen (and_parts _ _ (on_every_of r q ∙ h)).0);
    last = and_from _ _ (and_from _ _ x.last one.last) two.last;
    some = rw (one.some, two.some) (on_some_of r q);
    always = rw (one.always, two.always) (on_every_of r q);
    value = λ e. rw (one.value e, two.value e) refl;
    reads = and_from _ _ (and_from _ _ x.reads one.reads) two.reads;
    assigns = refl;
    limited = λ h. let parts = and_parts _ _ h in let both = of_both (λ b. b) (map stmt_few ss) (map stmt_few ts) parts.1 in
        and_from _ _ (x.limited parts.0) (both_lists (λ b. b) (map stmt_limits ss) (map stmt_limits ts) (one.limited both.0) (two.limited both.1));
    filled = and_from _ _ x.filled (both_lists (λ test. test p.scope.forms) (map stmt_texts ss) (map stmt_texts ts) one.filled two.filled);
    formed = and_from _ _ x.formed (both_lists (λ b. b) (map (stmt_allowed p.flat) ss) (map (stmt_allowed p.flat) ts) one.formed two.formed);
  });
  generate = λ p a event ws cs delay to delay_first is all d t.
      of_stmt p a Never [] (Stmt-F.Gen event cs delay to delay_first) (at_gen_is p a event cs delay to delay_first (at_gen p a event ws cs delay to delay_first is all d t));
  to_each = λ p a event ws cs delay members core is few all d.
      of_stmt p a Never [] (Stmt-F.Multi event cs delay members) (at_multi_is p a event cs delay members (at_multi p a event ws cs delay members core is few all d));
  say = λ p a form text ws cs there filled all. let xs = listed p ws cs all in of_stmt p a Never [] (Stmt-F.Say form cs) (record {
    named = and_from _ _ (is_below p.scope.forms form text there) xs.named;
    given = [];
    typed = rw xs.typed refl;
    only = refl;
    seen = never;
    last = xs.last;
    some = refl;
    always = refl;
    value = λ e. refl;
    reads = xs.reads;
    assigns = refl;
    limited = say_limit (length (map expr_limits cs)) (length (map expr_few cs)) _ _ (length-map cs expr_few ∙ sym (length-map cs expr_limits)) xs.limited;
    filled = text_is_filled p.scope.forms form (length cs) (length (map expr_texts cs)) text _ there filled (length-map cs expr_texts) xs.filled;
    formed = xs.formed;
  });
  return_nothing = λ p. of_stmt p None Always [] (Stmt-F.Return None) (record {
    named = refl;
    given = None ∷ [];
    typed = refl;
    only = refl;
    seen = λ h. refl;
    last = refl;
    some = refl;
    always = refl;
    value = λ e. refl;
    reads = refl;
    assigns = refl;
    limited = λ h. refl;
    filled = refl;
    formed = refl;
  });
  return_value = λ p w c x. let xs = just p w c x in of_stmt p (Some w) Always [] (Stmt-F.Return (Some c)) (record {
    named = xs.named;
    given = Some w ∷ [];
    typed = rw x.typed refl;
    only = rw (same_width w) refl;
    seen = λ h. refl;
    last = xs.last;
    some = refl;
    always = refl;
    value = λ e. absurd (cc);
    reads = xs.reads;
    assigns = refl;
    limited = xs.limited;
    filled = xs.filled;
    formed = xs.formed;
  });
  empty = empty;
  first = first;
  last = last;
}
