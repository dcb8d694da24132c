-- The step of a program that sends to no group does not depend on the meaning of such a send.
use Rattle.std.proofs.Common.{◌≡◌, ℕ, zero, suc, List, [], ◌∷◌, ◌++◌, Bool, true, Option, None, Some, fold, map, refl, sym, ap, ap₂, subst, ◌∙◌, option_map, option_to_list, slice_get}
use Rattle.std.specs.List.{list_all}
use Rattle.std.specs.Option.{option_and_then}
use Rattle.std.proofs.lemmas.Bool.{and_parts}
use Rattle.lucid_base.specs.declared.bits.Bits.{Bits}
use Rattle.lucid_core.specs.declared.body.Expr.{Expr}
use Rattle.lucid_core.specs.declared.body.Stmt.{Stmt}
use Rattle.lucid_core.specs.declared.body.Touch.{Touch}
use Rattle.lucid_core.specs.declared.body.Expr.TheOpen.{Expr-F, Stmt-F, Touch-F}
use Rattle.lucid_core.specs.declared.body.Expr.TheViews.{roll-Expr, roll-Stmt, roll-Touch}
use Rattle.lucid_core.specs.declared.body.Expr.TheFolds.{fold-Expr, fold-Touch, fold-roll-Expr, fold-roll-Stmt, fold-roll-Touch, ind-Stmt, map-Expr, map-Stmt, map-Touch}
use Rattle.lucid_core.specs.declared.defs.FunDef.{FunDef}
use Rattle.lucid_core.specs.declared.defs.HandlerDef.{HandlerDef}
use Rattle.lucid_core.specs.Computations.{Computation, Effect, Fun, Ran, begun_with, block, called}
use Rattle.lucid_core.specs.Meaning.{effect_of, expr_step, fun_of, stmt_step, touch_of, touch_step, value_of}
use Rattle.lucid_core.specs.Numbers.{all_hold}
use Rattle.lucid_core.specs.Parts.{CoreParts}
use Rattle.lucid_core.specs.Step.{handled, handler_of, started, taken_at}
use Rattle.lucid_core.specs.Syntax as syntax_of
use Rattle.lucid_core.specs.Syntax.{not_group}
use Rattle.lucid_core.proofs.Fine.{both_pass}
use Rattle.lucid_top_laws.specs.Groups.{GroupsAreApart, Send, any_expr, effect_with, fun_with, handled_with, sends_to_no_group, stmt_step_with}

abbrev C : Type 0
C = Computation Bits

abbrev pub expr_test : Expr → Bool
expr_test = fold-Expr Bool Bool Bool any_expr not_group syntax_of.touch_step

abbrev pub touch_test : Touch → Bool
touch_test = fold-Touch Bool Bool Bool any_expr not_group syntax_of.touch_step

module _ (send : Send) where
  abbrev value_with : Expr → C
  value_with = fold-Expr C Effect C expr_step (stmt_step_with send) touch_step

  abbrev touch_with : Touch → C
  touch_with = fold-Touch C Effect C expr_step (stmt_step_with send) touch_step

  abbrev E : Type 0
  E = (e : Expr) × (expr_test e ≡ true → value_with e ≡ value_of e)

  abbrev S : Type 0
  S = (e : Stmt) × (sends_to_no_group e ≡ true → effect_with send e ≡ effect_of e)

  abbrev T : Type 0
  T = (e : Touch) × (touch_test e ≡ true → touch_with e ≡ touch_of e)

  abbrev exprs : List E → List Expr
  exprs es = map (λ (e : E). e.0) es

  abbrev stmts : List S → List Stmt
  stmts es = map (λ (e : S). e.0) es

  these : (es : List E) → all_hold (map expr_test (exprs es)) ≡ true → map value_with (exprs es) ≡ map value_of (exprs es)
  these [] there = refl
  these (e ∷ es) there = let parts = and_parts _ _ there in ap₂ (λ (x : C) (xs : List C). x ∷ xs) (e.1 parts.0) (these es parts.1)

  those : (es : List S) → all_hold (map sends_to_no_group (stmts es)) ≡ true → map (effect_with send) (stmts es) ≡ map effect_of (stmts es)
  those [] there = refl
  those (e ∷ es) there = let parts = and_parts _ _ there in ap₂ (λ (x : Effect) (xs : List Effect). x ∷ xs) (e.1 parts.0) (those es parts.1)

  -- The arguments of a call that is inlined.
  abbrev trees : List (ℕ × E) → List (ℕ × Expr)
  trees gs = map (λ (g : ℕ × E). (g.0, g.1.0)) gs

  abbrev given_by : {A : Type 0} → (Expr → A) → List (ℕ × E) → List (ℕ × A)
  given_by {A} f gs = map {A = ℕ × Expr} {B = ℕ × A} (λ g. (g.0, f g.1)) (trees gs)

  abbrev given_tests : List (ℕ × E) → List Bool
  given_tests gs = map (λ (g : ℕ × Bool). g.1) (given_by expr_test gs)

  given : (gs : List (ℕ × E)) → all_hold (given_tests gs) ≡ true → given_by value_with gs ≡ given_by value_of gs
  given [] there = refl
  given (g ∷ gs) there =
      let parts = and_parts _ _ there in
      ap₂ (λ (x : C) (xs : List (ℕ × C)). (g.0, x) ∷ xs) (g.1.1 parts.0) (given gs parts.1)

  abbrev expr_tree : Expr-F E S T → Expr-F Expr Stmt Touch
  expr_tree = map-Expr E S T Expr Stmt Touch (λ e. e.0) (λ e. e.0) (λ e. e.0)

  abbrev touch_tree : Touch-F E S T → Touch-F Expr Stmt Touch
  touch_tree = map-Touch E S T Expr Stmt Touch (λ e. e.0) (λ e. e.0) (λ e. e.0)

  abbrev stmt_tree : Stmt-F E S T → Stmt-F Expr Stmt Touch
  stmt_tree = map-Stmt E S T Expr Stmt Touch (λ e. e.0) (λ e. e.0) (λ e. e.0)

  expr_level : (y : Expr-F E S T) → any_expr (map-Expr Expr Stmt Touch Bool Bool Bool expr_test sends_to_no_group touch_test (expr_tree y)) ≡ true →
      expr_step (map-Expr Expr Stmt Touch C Effect C value_with (effect_with send) touch_with (expr_tree y))
      ≡ expr_step (map-Expr Expr Stmt Touch C Effect C value_of effect_of touch_of (expr_tree y))
  expr_level (Expr-F.Fixed v) there = refl
  expr_level (Expr-F.Local i) there = refl
  expr_level Expr-F.Now there = refl
  expr_level Expr-F.Me there = refl
  expr_level (Expr-F.Un op e) there = ap (λ (x : C). expr_step (Expr-F.Un op x)) (e.1 (and_parts _ _ there).0)
  expr_level (Expr-F.Bin op e g) there =
      let parts = and_parts _ _ there in
      ap₂ (λ (x y : C). expr_step (Expr-F.Bin op x y)) (e.1 parts.0) (g.1 (and_parts _ _ parts.1).0)
  expr_level (Expr-F.Cmp op e g) there =
      let parts = and_parts _ _ there in
      ap₂ (λ (x y : C). expr_step (Expr-F.Cmp op x y)) (e.1 parts.0) (g.1 (and_parts _ _ parts.1).0)
  expr_level (Expr-F.Cast w e) there = ap (λ (x : C). expr_step (Expr-F.Cast w x)) (e.1 (and_parts _ _ there).0)
  expr_level (Expr-F.Hash w es) there = ap (λ (xs : List C). expr_step (Expr-F.Hash w xs)) (these es there)
  expr_level (Expr-F.Array e) there = ap (λ (x : C). expr_step (Expr-F.Array x)) (e.1 (and_parts _ _ there).0)
  expr_level (Expr-F.Fun k names es) there = ap (λ (xs : List C). expr_step (Expr-F.Fun k names xs)) (these es there)
  expr_level (Expr-F.Inlined gs es) there =
      let parts = both_pass (λ (b : Bool). b) (given_tests gs) (map sends_to_no_group (stmts es)) there in
      ap₂ (λ (xs : List (ℕ × C)) (ss : List Effect). expr_step (Expr-F.Inlined xs ss)) (given gs parts.0) (those es parts.1)

  touch_level : (y : Touch-F E S T) → syntax_of.touch_step (map-Touch Expr Stmt Touch Bool Bool Bool expr_test sends_to_no_group touch_test (touch_tree y)) ≡ true →
      touch_step (map-Touch Expr Stmt Touch C Effect C value_with (effect_with send) touch_with (touch_tree y))
      ≡ touch_step (map-Touch Expr Stmt Touch C Effect C value_of effect_of touch_of (touch_tree y))
  touch_level y there =
      let parts = and_parts _ _ there in
      let rest = and_parts _ _ parts.1 in
      let made = λ (i g s : C). touch_step (record { array = y.array; index = i; get = y.get; get_arg = g; set = y.set; set_arg = s; answers = y.answers }) in
      ap₂ (λ (i g : C). made i g (value_with y.set_arg.0)) (y.index.1 parts.0) (y.get_arg.1 rest.0)
      ∙ ap (λ (s : C). made (value_of y.index.0) (value_of y.get_arg.0) s) (y.set_arg.1 (and_parts _ _ rest.1).0)

  -- The arguments of a send, with its delay and its target where they are written.
  abbrev optional_test : Option E → List Bool
  optional_test d = option_to_list (option_map (λ (e : E). expr_test e.0) d)

  optional : (d : Option E) → all_hold (optional_test d) ≡ true → option_map (λ (e : E). value_with e.0) d ≡ option_map (λ (e : E). value_of e.0) d
  optional None there = refl
  optional (Some e) there = ap (λ (x : C). Some x) (e.1 (and_parts _ _ there).0)

  generated : (event : ℕ) (es : List E) (d t : Option E) (first : Bool) → all_hold (map expr_test (exprs es) ++ optional_test d ++ optional_test t) ≡ true →
      stmt_step (Stmt-F.Gen event (map value_with (exprs es)) (option_map (λ (e : E). value_with e.0) d) (option_map (λ (e : E). value_with e.0) t) first)
      ≡ stmt_step (Stmt-F.Gen event (map value_of (exprs es)) (option_map (λ (e : E). value_of e.0) d) (option_map (λ (e : E). value_of e.0) t) first)
  generated event es d t first there =
      let outer = both_pass (λ (b : Bool). b) (map expr_test (exprs es) ++ optional_test d) (optional_test t) there in
      let inner = both_pass (λ (b : Bool). b) (map expr_test (exprs es)) (optional_test d) outer.0 in
      ap₂ (λ (xs : List C) (x : Option C). stmt_step (Stmt-F.Gen event xs x (option_map (λ (e : E). value_with e.0) t) first)) (these es inner.0) (optional d inner.1)
      ∙ ap (λ (x : Option C). stmt_step (Stmt-F.Gen event (map value_of (exprs es)) (option_map (λ (e : E). value_of e.0) d) x first)) (optional t outer.1)

  stmt_level : (y : Stmt-F E S T) → not_group (map-Stmt Expr Stmt Touch Bool Bool Bool expr_test sends_to_no_group touch_test (stmt_tree y)) ≡ true →
      stmt_step_with send (map-Stmt Expr Stmt Touch C Effect C value_with (effect_with send) touch_with (stmt_tree y))
      ≡ stmt_step (map-Stmt Expr Stmt Touch C Effect C value_of effect_of touch_of (stmt_tree y))
  stmt_level (Stmt-F.Assign i e) there = ap (λ (x : C). stmt_step (Stmt-F.Assign i x)) (e.1 (and_parts _ _ there).0)
  stmt_level (Stmt-F.Drop e) there = ap (λ (x : C). stmt_step (Stmt-F.Drop x)) (e.1 (and_parts _ _ there).0)
  stmt_level (Stmt-F.If e es gs) there =
      let parts = and_parts _ _ there in
      let branches = both_pass (λ (b : Bool). b) (map sends_to_no_group (stmts es)) (map sends_to_no_group (stmts gs)) parts.1 in
      ap₂ (λ (ss ts : List Effect). stmt_step (Stmt-F.If (value_with e.0) ss ts)) (those es branches.0) (those gs branches.1)
      ∙ ap (λ (x : C). stmt_step (Stmt-F.If x (map effect_of (stmts es)) (map effect_of (stmts gs)))) (e.1 parts.0)
  stmt_level (Stmt-F.Gen event es None None first) there = generated event es None None first there
  stmt_level (Stmt-F.Gen event es None (Some t) first) there = generated event es None (Some t) first there
  stmt_level (Stmt-F.Gen event es (Some d) None first) there = generated event es (Some d) None first there
  stmt_level (Stmt-F.Gen event es (Some d) (Some t) first) there = generated event es (Some d) (Some t) first there
  stmt_level (Stmt-F.Multi event es delay members) there = absurd (cc)
  stmt_level (Stmt-F.Say form es) there = ap (λ (xs : List C). stmt_step (Stmt-F.Say form xs)) (these es there)
  stmt_level (Stmt-F.Return None) there = refl
  stmt_level (Stmt-F.Return (Some e)) there = ap (λ (x : C). stmt_step (Stmt-F.Return (Some x))) (e.1 (and_parts _ _ there).0)

  -- Where the folds are opened at a node.
  opened : {A : Type 0} {b c : Bool} {v w x y : A} → b ≡ c → v ≡ x → w ≡ y → (c ≡ true → x ≡ y) → b ≡ true → v ≡ w
  opened test left right same there = left ∙ same (sym test ∙ there) ∙ sym right

  of_expr : (y : Expr-F E S T) → expr_test (roll-Expr (expr_tree y)) ≡ true → value_with (roll-Expr (expr_tree y)) ≡ value_of (roll-Expr (expr_tree y))
  of_expr y = opened (fold-roll-Expr Bool Bool Bool any_expr not_group syntax_of.touch_step (expr_tree y)) (fold-roll-Expr C Effect C expr_step (stmt_step_with send) touch_step (expr_tree y))
      (fold-roll-Expr C Effect C expr_step stmt_step touch_step (expr_tree y)) (expr_level y)

  of_stmt : (y : Stmt-F E S T) → sends_to_no_group (roll-Stmt (stmt_tree y)) ≡ true → effect_with send (roll-Stmt (stmt_tree y)) ≡ effect_of (roll-Stmt (stmt_tree y))
  of_stmt y = opened (fold-roll-Stmt Bool Bool Bool any_expr not_group syntax_of.touch_step (stmt_tree y)) (fold-roll-Stmt C Effect C expr_step (stmt_step_with send) touch_step (stmt_tree y))
      (fold-roll-Stmt C Effect C expr_step stmt_step touch_step (stmt_tree y)) (stmt_level y)

  of_touch : (y : Touch-F E S T) → touch_test (roll-Touch (touch_tree y)) ≡ true → touch_with (roll-Touch (touch_tree y)) ≡ touch_of (roll-Touch (touch_tree y))
  of_touch y = opened (fold-roll-Touch Bool Bool Bool any_expr not_group syntax_of.touch_step (touch_tree y)) (fold-roll-Touch C Effect C expr_step (stmt_step_with send) touch_step (touch_tree y))
      (fold-roll-Touch C Effect C expr_step stmt_step touch_step (touch_tree y)) (touch_level y)

  stmt_same : (e : Stmt) → sends_to_no_group e ≡ true → effect_with send e ≡ effect_of e
  stmt_same = ind-Stmt (λ e. expr_test e ≡ true → value_with e ≡ value_of e) (λ e. sends_to_no_group e ≡ true → effect_with send e ≡ effect_of e)
      (λ e. touch_test e ≡ true → touch_with e ≡ touch_of e)
      (λ e y is. subst (λ z. expr_test (roll-Expr z) ≡ true → value_with (roll-Expr z) ≡ value_of (roll-Expr z)) is (of_expr y))
      (λ e y is. subst (λ z. sends_to_no_group (roll-Stmt z) ≡ true → effect_with send (roll-Stmt z) ≡ effect_of (roll-Stmt z)) is (of_stmt y))
      (λ e y is. subst (λ z. touch_test (roll-Touch z) ≡ true → touch_with (roll-Touch z) ≡ touch_of (roll-Touch z)) is (of_touch y))

  body_same : (ss : List Stmt) → list_all sends_to_no_group ss ≡ true → map (effect_with send) ss ≡ map effect_of ss
  body_same [] there = refl
  body_same (e ∷ es) there = let parts = and_parts _ _ there in ap₂ (λ (x : Effect) (xs : List Effect). x ∷ xs) (stmt_same e parts.0) (body_same es parts.1)

  -- ---- functions and handlers

  abbrev Has : Option HandlerDef → Type 0
  Has None = Unit {0}
  Has (Some h) = list_all sends_to_no_group h.body ≡ true

  module _ (now me : ℕ) where
    funs_same : (fs : List FunDef) (before : List Fun) → list_all (λ (f : FunDef). list_all sends_to_no_group f.body) fs ≡ true →
        fold (λ (b : List Fun) (f : FunDef). b ++ fun_with send now me b f ∷ []) before fs ≡ fold (λ (b : List Fun) (f : FunDef). b ++ fun_of now me b f ∷ []) before fs
    funs_same [] before there = refl
    funs_same (f ∷ fs) before there =
        let parts = and_parts _ _ there in
        let made = λ (ss : List Effect). before ++ (λ (arrays : List ℕ) (vs : List Bits). called (begun_with vs f.locals) (block ss) (record { now = now; me = me; arrays = arrays; funs = before })) ∷ [] in
        ap (λ (ss : List Effect). fold (λ (b : List Fun) (g : FunDef). b ++ fun_with send now me b g ∷ []) (made ss) fs) (body_same f.body parts.0)
        ∙ funs_same fs (made (map effect_of f.body)) parts.1

    handled_same : (o : Option HandlerDef) (parts : CoreParts) → Has o → list_all (λ (f : FunDef). list_all sends_to_no_group f.body) parts.funs ≡ true →
        (cells : List (List ℕ)) (args : List ℕ) → handled_with send o parts cells now me args ≡ handled o parts cells now me args
    handled_same None parts has there cells args = refl
    handled_same (Some h) parts has there cells args =
        ap₂ (λ (ss : List Effect) (fs : List Fun). block ss (record { now = now; me = me; arrays = []; funs = fs }) (started cells (begun_with (taken_at h.locals args) h.locals)))
        (body_same h.body has) (funs_same parts.funs [] there)

  at_place : (hs : List HandlerDef) → list_all (λ (h : HandlerDef). list_all sends_to_no_group h.body) hs ≡ true → (i : ℕ) → Has (slice_get hs i)
  at_place [] there i = tt
  at_place (h ∷ hs) there zero = (and_parts _ _ there).0
  at_place (h ∷ hs) there (suc i) = at_place hs (and_parts _ _ there).1 i

  at_event : (hs : List HandlerDef) → list_all (λ (h : HandlerDef). list_all sends_to_no_group h.body) hs ≡ true → (o : Option ℕ) → Has (option_and_then (slice_get hs) o)
  at_event hs there None = tt
  at_event hs there (Some i) = at_place hs there i

pub apart : GroupsAreApart
apart send parts none cells now me event =
    let both = and_parts _ _ none in
    let has = at_event send parts.handlers both.1 (option_and_then (λ e. e.handler) (slice_get parts.events event.id)) in
    ap (λ (r : Ran (Unit {0})). record { cells = r.after.cells; outs = r.after.outs })
    (handled_same send now me (handler_of parts event.id) parts has both.0 cells event.args)
