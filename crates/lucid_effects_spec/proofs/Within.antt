-- A walk over a body whose names exist: a fact of its results for each form holds for its result for the whole.
use Rattle.std.proofs.Common.{◌≡◌, ℕ, List, [], ◌∷◌, ◌++◌, Bool, true, false, ◌&&◌, Option, None, Some, length, map, sym, subst, option_map, option_to_list, nat_lt}
use Rattle.std.specs.List.{list_all}
use Rattle.std.proofs.lemmas.Bool.{and_parts}
use Rattle.lucid_base.specs.declared.array.ArrayName.{ArrayName}
use Rattle.lucid_core.specs.declared.body.Expr.{Expr}
use Rattle.lucid_core.specs.declared.body.Stmt.{Stmt}
use Rattle.lucid_core.specs.declared.body.Touch.{Touch}
use Rattle.lucid_core.specs.declared.body.Expr.TheOpen.{Expr-F, Stmt-F, Touch-F}
use Rattle.lucid_core.specs.declared.body.Expr.TheViews.{roll-Expr, roll-Stmt, roll-Touch}
use Rattle.lucid_core.specs.declared.body.Expr.TheFolds.{fold-roll-Expr, fold-roll-Stmt, fold-roll-Touch, ind-Stmt, map-Expr, map-Stmt, map-Touch}
use Rattle.lucid_core.specs.Names as n
use Rattle.lucid_core.specs.Names.{expr_names, is_array, stmt_names, touch_names}
use Rattle.lucid_core.specs.Scope.{Scope, Test, each}
use Rattle.lucid_core.proofs.Fine.{both_pass}
use Rattle.lucid_effects_spec.specs.Evaluation.{Walk, both, body_walk, expr_step, expr_walk, optional, sequence, stmt_parts, stmt_step, stmt_walk, touch_step, touch_walk}

-- Calls of arrays, and of functions, count only where their arrays are in scope.
module _ {A : Type 0} (s : Scope) (w : Walk A) (P : A → Type 0) (nothing : P w.nothing)
    (in_turn : (a b : A) → P a → P b → P (w.in_turn a b))
    (branches : (a b : A) → P a → P b → P (w.branches a b))
    (array : (x : ArrayName) → is_array s.arrays s.params x ≡ true → P (w.array x))
    (function : (k : ℕ) (names : List ArrayName) → list_all (is_array s.arrays s.params) names ≡ true → P (w.function k names))
    (node : (a : A) → P a → P (w.node a)) where
  abbrev pub Keeps : A → Test → Type 0
  Keeps a test = test s ≡ true → P a

  abbrev pub E : Type 0
  E = (e : Expr) × Keeps (expr_walk w e) (expr_names e)

  abbrev pub S : Type 0
  S = (e : Stmt) × Keeps (stmt_walk w e) (stmt_names e)

  abbrev pub T : Type 0
  T = (e : Touch) × Keeps (touch_walk w e) (touch_names e)

  abbrev exprs : List E → List Expr
  exprs es = map (λ (e : E). e.0) es

  abbrev stmts : List S → List Stmt
  stmts es = map (λ (e : S). e.0) es

  abbrev given_trees : List (ℕ × E) → List (ℕ × Expr)
  given_trees gs = map (λ (g : ℕ × E). (g.0, g.1.0)) gs

  exprs_keep : (es : List E) → Keeps (sequence w (map (expr_walk w) (exprs es))) (each (map expr_names (exprs es)))
  exprs_keep [] h = nothing
  exprs_keep (e ∷ es) h = let both = and_parts _ _ h in in_turn (expr_walk w e.0) (sequence w (map (expr_walk w) (exprs es))) (e.1 both.0) (exprs_keep es both.1)

  stmts_keep : (es : List S) → Keeps (sequence w (map (stmt_walk w) (stmts es))) (each (map stmt_names (stmts es)))
  stmts_keep [] h = nothing
  stmts_keep (e ∷ es) h = let both = and_parts _ _ h in in_turn (stmt_walk w e.0) (sequence w (map (stmt_walk w) (stmts es))) (e.1 both.0) (stmts_keep es both.1)

  given_keep : (gs : List (ℕ × E)) → Keeps (sequence w (map (λ (g : ℕ × A). g.1) (map (λ (g : ℕ × Expr). (g.0, expr_walk w g.1)) (given_trees gs))))
      (λ s. list_all (λ (g : ℕ × Test). nat_lt g.0 (length s.locals) && g.1 s) (map (λ (g : ℕ × Expr). (g.0, expr_names g.1)) (given_trees gs)))
  given_keep [] h = nothing
  given_keep (g ∷ gs) h = let both = and_parts _ _ h in
      in_turn (expr_walk w g.1.0) (sequence w (map (λ (g : ℕ × A). g.1) (map (λ (g : ℕ × Expr). (g.0, expr_walk w g.1)) (given_trees gs)))) (g.1.1 (and_parts _ _ both.0).1) (given_keep gs both.1)

  abbrev pub expr_tree : Expr-F E S T → Expr-F Expr Stmt Touch
  expr_tree = map-Expr E S T Expr Stmt Touch (λ e. e.0) (λ e. e.0) (λ e. e.0)

  abbrev pub touch_tree : Touch-F E S T → Touch-F Expr Stmt Touch
  touch_tree = map-Touch E S T Expr Stmt Touch (λ e. e.0) (λ e. e.0) (λ e. e.0)

  abbrev pub stmt_tree : Stmt-F E S T → Stmt-F Expr Stmt Touch
  stmt_tree = map-Stmt E S T Expr Stmt Touch (λ e. e.0) (λ e. e.0) (λ e. e.0)

  expr_level : (y : Expr-F E S T) → Keeps (expr_step w (map-Expr Expr Stmt Touch A A A (expr_walk w) (stmt_walk w) (touch_walk w) (expr_tree y)))
      (n.expr_step (map-Expr Expr Stmt Touch Test Test Test expr_names stmt_names touch_names (expr_tree y)))
  expr_level (Expr-F.Fixed b) h = node _ nothing
  expr_level (Expr-F.Local i) h = node _ nothing
  expr_level Expr-F.Now h = node _ nothing
  expr_level Expr-F.Me h = node _ nothing
  expr_level (Expr-F.Un op e) h = node _ (e.1 (and_parts _ _ h).0)
  expr_level (Expr-F.Bin op e f) h = let both = and_parts _ _ h in node _ (in_turn (expr_walk w e.0) (expr_walk w f.0) (e.1 both.0) (f.1 (and_parts _ _ both.1).0))
  expr_level (Expr-F.Cmp op e f) h = let both = and_parts _ _ h in node _ (in_turn (expr_walk w e.0) (expr_walk w f.0) (e.1 both.0) (f.1 (and_parts _ _ both.1).0))
  expr_level (Expr-F.Cast w e) h = node _ (e.1 (and_parts _ _ h).0)
  expr_level (Expr-F.Hash w es) h = node _ (exprs_keep es h)
  expr_level (Expr-F.Array e) h = node _ (e.1 (and_parts _ _ h).0)
  expr_level (Expr-F.Fun k names es) h =
      let all = and_parts _ _ h in
      let more = and_parts _ _ all.0 in
      in_turn (sequence w (map (expr_walk w) (exprs es))) (w.function k names) (exprs_keep es all.1) (function k names more.1)
  expr_level (Expr-F.Inlined given es) h =
      let both = and_parts _ _ h in
      node _ (in_turn (sequence w (map (λ (g : ℕ × A). g.1) (map (λ (g : ℕ × Expr). (g.0, expr_walk w g.1)) (given_trees given)))) (sequence w (map (stmt_walk w) (stmts es))) (given_keep given both.0) (stmts_keep es both.1))

  touch_level : (y : Touch-F E S T) → Keeps (touch_step w (map-Touch Expr Stmt Touch A A A (expr_walk w) (stmt_walk w) (touch_walk w) (touch_tree y)))
      (n.touch_step (map-Touch Expr Stmt Touch Test Test Test expr_names stmt_names touch_names (touch_tree y)))
  touch_level y h =
      let name = and_parts _ _ h in
      let i = and_parts _ _ name.1 in
      let g = and_parts _ _ i.1 in
      let v = and_parts _ _ g.1 in
      let last = w.array y.array in
      in_turn (expr_walk w y.index.0) (w.in_turn (expr_walk w y.get_arg.0) (w.in_turn (expr_walk w y.set_arg.0) last)) (y.index.1 i.0)
      (in_turn (expr_walk w y.get_arg.0) (w.in_turn (expr_walk w y.set_arg.0) last) (y.get_arg.1 g.0)
      (in_turn (expr_walk w y.set_arg.0) last (y.set_arg.1 v.0) (array y.array name.0)))

  optional_keep : (e : Option E) → Keeps (optional w (option_map (λ (x : E). expr_walk w x.0) e)) (each (option_to_list (option_map (λ (x : E). expr_names x.0) e)))
  optional_keep None h = nothing
  optional_keep (Some e) h = e.1 (and_parts _ _ h).0

  both_keep : (first : Bool) (f g : A) → P f → P g → P (both w first f g)
  both_keep true f g h k = in_turn f g h k
  both_keep false f g h k = in_turn g f k h

  gen_keeps : (event : ℕ) (es : List E) (delay to : Option E) (first : Bool) →
      Keeps (stmt_parts w (Stmt-F.Gen event (map (expr_walk w) (exprs es)) (option_map (λ (x : E). expr_walk w x.0) delay) (option_map (λ (x : E). expr_walk w x.0) to) first))
      (n.stmt_step (Stmt-F.Gen event (map expr_names (exprs es)) (option_map (λ (x : E). expr_names x.0) delay) (option_map (λ (x : E). expr_names x.0) to) first))
  gen_keeps event es delay to first h =
      let ds = option_to_list (option_map (λ (x : E). expr_names x.0) delay) in
      let ts = option_to_list (option_map (λ (x : E). expr_names x.0) to) in
      let parts = both_pass (λ (test : Test). test s) (map expr_names (exprs es) ++ ds) ts (and_parts _ _ h).1 in
      let more = both_pass (λ (test : Test). test s) (map expr_names (exprs es)) ds parts.0 in
      let de = optional w (option_map (λ (x : E). expr_walk w x.0) delay) in
      let te = optional w (option_map (λ (x : E). expr_walk w x.0) to) in
      in_turn (sequence w (map (expr_walk w) (exprs es))) (both w first de te) (exprs_keep es more.0) (both_keep first de te (optional_keep delay more.1) (optional_keep to parts.1))

  multi_keeps : (event : ℕ) (es : List E) (delay : Option E) (members : List ℕ) →
      Keeps (stmt_parts w (Stmt-F.Multi event (map (expr_walk w) (exprs es)) (option_map (λ (x : E). expr_walk w x.0) delay) members))
      (n.stmt_step (Stmt-F.Multi event (map expr_names (exprs es)) (option_map (λ (x : E). expr_names x.0) delay) members))
  multi_keeps event es delay members h =
      let ds = option_to_list (option_map (λ (x : E). expr_names x.0) delay) in
      let parts = both_pass (λ (test : Test). test s) (map expr_names (exprs es)) ds (and_parts _ _ h).1 in
      in_turn (sequence w (map (expr_walk w) (exprs es))) (optional w (option_map (λ (x : E). expr_walk w x.0) delay)) (exprs_keep es parts.0) (optional_keep delay parts.1)

  stmt_parts_keep : (y : Stmt-F E S T) → Keeps (stmt_parts w (map-Stmt Expr Stmt Touch A A A (expr_walk w) (stmt_walk w) (touch_walk w) (stmt_tree y)))
      (n.stmt_step (map-Stmt Expr Stmt Touch Test Test Test expr_names stmt_names touch_names (stmt_tree y)))
  stmt_parts_keep (Stmt-F.Assign i e) h = e.1 (and_parts _ _ h).1
  stmt_parts_keep (Stmt-F.Drop e) h = e.1 (and_parts _ _ h).0
  stmt_parts_keep (Stmt-F.If e ss ts) h =
      let both = and_parts _ _ h in
      let parts = both_pass (λ (test : Test). test s) (map stmt_names (stmts ss)) (map stmt_names (stmts ts)) both.1 in
      let left = sequence w (map (stmt_walk w) (stmts ss)) in
      let right = sequence w (map (stmt_walk w) (stmts ts)) in
      in_turn (expr_walk w e.0) (w.branches left right) (e.1 both.0) (branches left right (stmts_keep ss parts.0) (stmts_keep ts parts.1))
  stmt_parts_keep (Stmt-F.Gen event es None None first) h = gen_keeps event es None None first h
  stmt_parts_keep (Stmt-F.Gen event es None (Some t) first) h = gen_keeps event es None (Some t) first h
  stmt_parts_keep (Stmt-F.Gen event es (Some e) None first) h = gen_keeps event es (Some e) None first h
  stmt_parts_keep (Stmt-F.Gen event es (Some e) (Some t) first) h = gen_keeps event es (Some e) (Some t) first h
  stmt_parts_keep (Stmt-F.Multi event es None members) h = multi_keeps event es None members h
  stmt_parts_keep (Stmt-F.Multi event es (Some e) members) h = multi_keeps event es (Some e) members h
  stmt_parts_keep (Stmt-F.Say form es) h = exprs_keep es (and_parts _ _ h).1
  stmt_parts_keep (Stmt-F.Return None) h = nothing
  stmt_parts_keep (Stmt-F.Return (Some e)) h = e.1 (and_parts _ _ h).0

  stmt_level : (y : Stmt-F E S T) → Keeps (stmt_step w (map-Stmt Expr Stmt Touch A A A (expr_walk w) (stmt_walk w) (touch_walk w) (stmt_tree y)))
      (n.stmt_step (map-Stmt Expr Stmt Touch Test Test Test expr_names stmt_names touch_names (stmt_tree y)))
  stmt_level y h = node _ (stmt_parts_keep y h)

  along : (f g : A) (a b : Test) → f ≡ g → a ≡ b → Keeps g b → Keeps f a
  along f g a b e h is = subst (λ (x : A). Keeps x a) (sym e) (subst (λ (y : Test). Keeps g y) (sym h) is)

  of_expr : (y : Expr-F E S T) → Keeps (expr_walk w (roll-Expr (expr_tree y))) (expr_names (roll-Expr (expr_tree y)))
  of_expr y = along _ _ _ _ (fold-roll-Expr A A A (expr_step w) (stmt_step w) (touch_step w) (expr_tree y)) (fold-roll-Expr Test Test Test n.expr_step n.stmt_step n.touch_step (expr_tree y)) (expr_level y)

  of_stmt : (y : Stmt-F E S T) → Keeps (stmt_walk w (roll-Stmt (stmt_tree y))) (stmt_names (roll-Stmt (stmt_tree y)))
  of_stmt y = along _ _ _ _ (fold-roll-Stmt A A A (expr_step w) (stmt_step w) (touch_step w) (stmt_tree y)) (fold-roll-Stmt Test Test Test n.expr_step n.stmt_step n.touch_step (stmt_tree y)) (stmt_level y)

  of_touch : (y : Touch-F E S T) → Keeps (touch_walk w (roll-Touch (touch_tree y))) (touch_names (roll-Touch (touch_tree y)))
  of_touch y = along _ _ _ _ (fold-roll-Touch A A A (expr_step w) (stmt_step w) (touch_step w) (touch_tree y)) (fold-roll-Touch Test Test Test n.expr_step n.stmt_step n.touch_step (touch_tree y)) (touch_level y)

  stmt_keeps : (e : Stmt) → Keeps (stmt_walk w e) (stmt_names e)
  stmt_keeps = ind-Stmt (λ e. Keeps (expr_walk w e) (expr_names e)) (λ e. Keeps (stmt_walk w e) (stmt_names e)) (λ e. Keeps (touch_walk w e) (touch_names e))
      (λ e y is. subst (λ z. Keeps (expr_walk w (roll-Expr z)) (expr_names (roll-Expr z))) is (of_expr y))
      (λ e y is. subst (λ z. Keeps (stmt_walk w (roll-Stmt z)) (stmt_names (roll-Stmt z))) is (of_stmt y))
      (λ e y is. subst (λ z. Keeps (touch_walk w (roll-Touch z)) (touch_names (roll-Touch z))) is (of_touch y))

  pub body_keeps : (ss : List Stmt) → Keeps (body_walk w ss) (each (map stmt_names ss))
  body_keeps [] h = nothing
  body_keeps (e ∷ es) h = let both = and_parts _ _ h in in_turn (stmt_walk w e) (body_walk w es) (stmt_keeps e both.0) (body_keeps es both.1)
