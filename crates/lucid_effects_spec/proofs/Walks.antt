-- Two walks over one body: a relation between their results for each form holds between their results for the whole.
use Rattle.std.proofs.Common.{◌≡◌, ℕ, List, [], ◌∷◌, Bool, true, false, Option, None, Some, map, option_map, refl, sym, ap, ap₂, subst}
use Rattle.lucid_base.specs.declared.array.ArrayName.{ArrayName}
use Rattle.lucid_core.specs.declared.body.Expr.{Expr}
use Rattle.lucid_core.specs.declared.body.Stmt.{Stmt}
use Rattle.lucid_core.specs.declared.body.Touch.{Touch}
use Rattle.lucid_core.specs.declared.body.Expr.TheOpen.{Expr-F, Stmt-F, Touch-F}
use Rattle.lucid_core.specs.declared.body.Expr.TheViews.{roll-Expr, roll-Stmt, roll-Touch}
use Rattle.lucid_core.specs.declared.body.Expr.TheFolds.{fold-roll-Expr, fold-roll-Stmt, fold-roll-Touch, map-Expr, map-Stmt, map-Touch}
use Rattle.lucid_core.proofs.Induction.{Cases, expr_by, stmt_by}
use Rattle.lucid_effects_spec.specs.Evaluation.{Walk, both, body_walk, expr_step, expr_walk, optional, sequence, stmt_parts, stmt_step, stmt_walk, touch_step, touch_walk}

module _ {A B : Type 0} (w : Walk A) (v : Walk B) (R : A → B → Type 0) (nothing : R w.nothing v.nothing)
    (in_turn : (a b : A) (c d : B) → R a c → R b d → R (w.in_turn a b) (v.in_turn c d))
    (branches : (a b : A) (c d : B) → R a c → R b d → R (w.branches a b) (v.branches c d))
    (array : (x : ArrayName) → R (w.array x) (v.array x))
    (function : (k : ℕ) (names : List ArrayName) → R (w.function k names) (v.function k names))
    (node : (a : A) (b : B) → R a b → R (w.node a) (v.node b)) where
  -- Trees of which it holds.
  abbrev pub E : Type 0
  E = (e : Expr) × R (expr_walk w e) (expr_walk v e)

  abbrev pub S : Type 0
  S = (e : Stmt) × R (stmt_walk w e) (stmt_walk v e)

  abbrev pub T : Type 0
  T = (e : Touch) × R (touch_walk w e) (touch_walk v e)

  abbrev exprs : List E → List Expr
  exprs es = map (λ (e : E). e.0) es

  abbrev stmts : List S → List Stmt
  stmts es = map (λ (e : S). e.0) es

  abbrev arguments : {C : Type 0} → (Expr → C) → List (ℕ × E) → List C
  arguments {C} f given = map (λ (g : ℕ × C). g.1) (map (λ (g : ℕ × Expr). (g.0, f g.1)) (map (λ (g : ℕ × E). (g.0, g.1.0)) given))

  exprs_relate : (es : List E) → R (sequence w (map (expr_walk w) (exprs es))) (sequence v (map (expr_walk v) (exprs es)))
  exprs_relate [] = nothing
  exprs_relate (e ∷ es) = in_turn (expr_walk w e.0) (sequence w (map (expr_walk w) (exprs es))) (expr_walk v e.0) (sequence v (map (expr_walk v) (exprs es))) e.1 (exprs_relate es)

  stmts_relate : (es : List S) → R (sequence w (map (stmt_walk w) (stmts es))) (sequence v (map (stmt_walk v) (stmts es)))
  stmts_relate [] = nothing
  stmts_relate (e ∷ es) = in_turn (stmt_walk w e.0) (sequence w (map (stmt_walk w) (stmts es))) (stmt_walk v e.0) (sequence v (map (stmt_walk v) (stmts es))) e.1 (stmts_relate es)

  given_relate : (given : List (ℕ × E)) → R (sequence w (arguments (expr_walk w) given)) (sequence v (arguments (expr_walk v) given))
  given_relate [] = nothing
  given_relate (g ∷ given) = in_turn (expr_walk w g.1.0) (sequence w (arguments (expr_walk w) given)) (expr_walk v g.1.0) (sequence v (arguments (expr_walk v) given)) g.1.1 (given_relate given)

  abbrev pub expr_tree : Expr-F E S T → Expr-F Expr Stmt Touch
  expr_tree = map-Expr E S T Expr Stmt Touch (λ e. e.0) (λ e. e.0) (λ e. e.0)

  abbrev pub touch_tree : Touch-F E S T → Touch-F Expr Stmt Touch
  touch_tree = map-Touch E S T Expr Stmt Touch (λ e. e.0) (λ e. e.0) (λ e. e.0)

  abbrev pub stmt_tree : Stmt-F E S T → Stmt-F Expr Stmt Touch
  stmt_tree = map-Stmt E S T Expr Stmt Touch (λ e. e.0) (λ e. e.0) (λ e. e.0)

  expr_level : (y : Expr-F E S T) → R (expr_step w (map-Expr Expr Stmt Touch A A A (expr_walk w) (stmt_walk w) (touch_walk w) (expr_tree y)))
      (expr_step v (map-Expr Expr Stmt Touch B B B (expr_walk v) (stmt_walk v) (touch_walk v) (expr_tree y)))
  expr_level (Expr-F.Fixed b) = node _ _ nothing
  expr_level (Expr-F.Local i) = node _ _ nothing
  expr_level Expr-F.Now = node _ _ nothing
  expr_level Expr-F.Me = node _ _ nothing
  expr_level (Expr-F.Un op e) = node _ _ e.1
  expr_level (Expr-F.Bin op e f) = node _ _ (in_turn (expr_walk w e.0) (expr_walk w f.0) (expr_walk v e.0) (expr_walk v f.0) e.1 f.1)
  expr_level (Expr-F.Cmp op e f) = node _ _ (in_turn (expr_walk w e.0) (expr_walk w f.0) (expr_walk v e.0) (expr_walk v f.0) e.1 f.1)
  expr_level (Expr-F.Cast width e) = node _ _ e.1
  expr_level (Expr-F.Hash width es) = node _ _ (exprs_relate es)
  expr_level (Expr-F.Array e) = node _ _ e.1
  expr_level (Expr-F.Fun k names es) =
      in_turn (sequence w (map (expr_walk w) (exprs es))) (w.function k names) (sequence v (map (expr_walk v) (exprs es))) (v.function k names) (exprs_relate es) (function k names)
  expr_level (Expr-F.Inlined given es) =
      node _ _ (in_turn (sequence w (arguments (expr_walk w) given)) (sequence w (map (stmt_walk w) (stmts es))) (sequence v (arguments (expr_walk v) given)) (sequence v (map (stmt_walk v) (stmts es))) (given_relate given) (stmts_relate es))

  touch_level : (y : Touch-F E S T) → R (touch_step w (map-Touch Expr Stmt Touch A A A (expr_walk w) (stmt_walk w) (touch_walk w) (touch_tree y)))
      (touch_step v (map-Touch Expr Stmt Touch B B B (expr_walk v) (stmt_walk v) (touch_walk v) (touch_tree y)))
  touch_level y =
      let set = in_turn (expr_walk w y.set_arg.0) (w.array y.array) (expr_walk v y.set_arg.0) (v.array y.array) y.set_arg.1 (array y.array) in
      let get = in_turn (expr_walk w y.get_arg.0) (w.in_turn (expr_walk w y.set_arg.0) (w.array y.array)) (expr_walk v y.get_arg.0) (v.in_turn (expr_walk v y.set_arg.0) (v.array y.array)) y.get_arg.1 set in
      in_turn (expr_walk w y.index.0) (w.in_turn (expr_walk w y.get_arg.0) (w.in_turn (expr_walk w y.set_arg.0) (w.array y.array)))
      (expr_walk v y.index.0) (v.in_turn (expr_walk v y.get_arg.0) (v.in_turn (expr_walk v y.set_arg.0) (v.array y.array))) y.index.1 get

  optional_relates : (e : Option E) → R (optional w (option_map (λ (x : E). expr_walk w x.0) e)) (optional v (option_map (λ (x : E). expr_walk v x.0) e))
  optional_relates None = nothing
  optional_relates (Some e) = e.1

  both_relate : (first : Bool) (a b : A) (c d : B) → R a c → R b d → R (both w first a b) (both v first c d)
  both_relate true a b c d h k = in_turn a b c d h k
  both_relate false a b c d h k = in_turn b a d c k h

  gen_relates : (event : ℕ) (es : List E) (delay to : Option E) (first : Bool) →
      R (stmt_parts w (Stmt-F.Gen event (map (expr_walk w) (exprs es)) (option_map (λ (x : E). expr_walk w x.0) delay) (option_map (λ (x : E). expr_walk w x.0) to) first))
      (stmt_parts v (Stmt-F.Gen event (map (expr_walk v) (exprs es)) (option_map (λ (x : E). expr_walk v x.0) delay) (option_map (λ (x : E). expr_walk v x.0) to) first))
  gen_relates event es delay to first =
      let d = optional w (option_map (λ (x : E). expr_walk w x.0) delay) in
      let t = optional w (option_map (λ (x : E). expr_walk w x.0) to) in
      let e = optional v (option_map (λ (x : E). expr_walk v x.0) delay) in
      let u = optional v (option_map (λ (x : E). expr_walk v x.0) to) in
      in_turn (sequence w (map (expr_walk w) (exprs es))) (both w first d t) (sequence v (map (expr_walk v) (exprs es))) (both v first e u) (exprs_relate es)
      (both_relate first d t e u (optional_relates delay) (optional_relates to))

  multi_relates : (event : ℕ) (es : List E) (delay : Option E) (members : List ℕ) →
      R (stmt_parts w (Stmt-F.Multi event (map (expr_walk w) (exprs es)) (option_map (λ (x : E). expr_walk w x.0) delay) members))
      (stmt_parts v (Stmt-F.Multi event (map (expr_walk v) (exprs es)) (option_map (λ (x : E). expr_walk v x.0) delay) members))
  multi_relates event es delay members =
      in_turn (sequence w (map (expr_walk w) (exprs es))) (optional w (option_map (λ (x : E). expr_walk w x.0) delay))
      (sequence v (map (expr_walk v) (exprs es))) (optional v (option_map (λ (x : E). expr_walk v x.0) delay)) (exprs_relate es) (optional_relates delay)

  stmt_parts_relate : (y : Stmt-F E S T) → R (stmt_parts w (map-Stmt Expr Stmt Touch A A A (expr_walk w) (stmt_walk w) (touch_walk w) (stmt_tree y)))
      (stmt_parts v (map-Stmt Expr Stmt Touch B B B (expr_walk v) (stmt_walk v) (touch_walk v) (stmt_tree y)))
  stmt_parts_relate (Stmt-F.Assign i e) = e.1
  stmt_parts_relate (Stmt-F.Drop e) = e.1
  stmt_parts_relate (Stmt-F.If e ss ts) =
      let a = sequence w (map (stmt_walk w) (stmts ss)) in
      let b = sequence w (map (stmt_walk w) (stmts ts)) in
      let c = sequence v (map (stmt_walk v) (stmts ss)) in
      let d = sequence v (map (stmt_walk v) (stmts ts)) in
      in_turn (expr_walk w e.0) (w.branches a b) (expr_walk v e.0) (v.branches c d) e.1 (branches a b c d (stmts_relate ss) (stmts_relate ts))
  stmt_parts_relate (Stmt-F.Gen event es None None first) = gen_relates event es None None first
  stmt_parts_relate (Stmt-F.Gen event es None (Some t) first) = gen_relates event es None (Some t) first
  stmt_parts_relate (Stmt-F.Gen event es (Some e) None first) = gen_relates event es (Some e) None first
  stmt_parts_relate (Stmt-F.Gen event es (Some e) (Some t) first) = gen_relates event es (Some e) (Some t) first
  stmt_parts_relate (Stmt-F.Multi event es None members) = multi_relates event es None members
  stmt_parts_relate (Stmt-F.Multi event es (Some e) members) = multi_relates event es (Some e) members
  stmt_parts_relate (Stmt-F.Say form es) = exprs_relate es
  stmt_parts_relate (Stmt-F.Return None) = nothing
  stmt_parts_relate (Stmt-F.Return (Some e)) = e.1

  stmt_level : (y : Stmt-F E S T) → R (stmt_step w (map-Stmt Expr Stmt Touch A A A (expr_walk w) (stmt_walk w) (touch_walk w) (stmt_tree y)))
      (stmt_step v (map-Stmt Expr Stmt Touch B B B (expr_walk v) (stmt_walk v) (touch_walk v) (stmt_tree y)))
  stmt_level y = node _ _ (stmt_parts_relate y)

  along : (a b : A) (c d : B) → a ≡ b → c ≡ d → R b d → R a c
  along a b c d e f h = subst (λ (x : A). R x c) (sym e) (subst (λ (y : B). R b y) (sym f) h)

  of_expr : (y : Expr-F E S T) → R (expr_walk w (roll-Expr (expr_tree y))) (expr_walk v (roll-Expr (expr_tree y)))
  of_expr y = along _ _ _ _ (fold-roll-Expr A A A (expr_step w) (stmt_step w) (touch_step w) (expr_tree y)) (fold-roll-Expr B B B (expr_step v) (stmt_step v) (touch_step v) (expr_tree y)) (expr_level y)

  of_stmt : (y : Stmt-F E S T) → R (stmt_walk w (roll-Stmt (stmt_tree y))) (stmt_walk v (roll-Stmt (stmt_tree y)))
  of_stmt y = along _ _ _ _ (fold-roll-Stmt A A A (expr_step w) (stmt_step w) (touch_step w) (stmt_tree y)) (fold-roll-Stmt B B B (expr_step v) (stmt_step v) (touch_step v) (stmt_tree y)) (stmt_level y)

  of_touch : (y : Touch-F E S T) → R (touch_walk w (roll-Touch (touch_tree y))) (touch_walk v (roll-Touch (touch_tree y)))
  of_touch y = along _ _ _ _ (fold-roll-Touch A A A (expr_step w) (stmt_step w) (touch_step w) (touch_tree y)) (fold-roll-Touch B B B (expr_step v) (stmt_step v) (touch_step v) (touch_tree y)) (touch_level y)

  by_nodes : Cases (λ e. R (expr_walk w e) (expr_walk v e)) (λ e. R (stmt_walk w e) (stmt_walk v e)) (λ e. R (touch_walk w e) (touch_walk v e))
  by_nodes = record { expr = of_expr; stmt = of_stmt; touch = of_touch }

  pub expr_relates : (e : Expr) → R (expr_walk w e) (expr_walk v e)
  expr_relates = expr_by by_nodes

  pub stmt_relates : (e : Stmt) → R (stmt_walk w e) (stmt_walk v e)
  stmt_relates = stmt_by by_nodes

  pub bodies_relate : (ss : List Stmt) → R (body_walk w ss) (body_walk v ss)
  bodies_relate [] = nothing
  bodies_relate (e ∷ es) = in_turn (stmt_walk w e) (body_walk w es) (stmt_walk v e) (body_walk v es) (stmt_relates e) (bodies_relate es)

-- Two walks at once.
module _ {A B : Type 0} (w : Walk A) (v : Walk B) where
  abbrev pub paired : Walk (A × B)
  paired = record {
    nothing = (w.nothing, v.nothing);
    in_turn = λ a b. (w.in_turn a.0 b.0, v.in_turn a.1 b.1);
    branches = λ a b. (w.branches a.0 b.0, v.branches a.1 b.1);
    array = λ x. (w.array x, v.array x);
    function = λ k names. (w.function k names, v.function k names);
    node = λ a. (w.node a.0, v.node a.1);
  }

  pub first_of : (ss : List Stmt) → (body_walk paired ss).0 ≡ body_walk w ss
  first_of = bodies_relate paired w (λ x a. x.0 ≡ a) refl (λ a b c d h k. ap₂ w.in_turn h k) (λ a b c d h k. ap₂ w.branches h k) (λ x. refl) (λ k names. refl) (λ a b h. ap w.node h)

  pub second_of : (ss : List Stmt) → (body_walk paired ss).1 ≡ body_walk v ss
  second_of = bodies_relate paired v (λ x a. x.1 ≡ a) refl (λ a b c d h k. ap₂ v.in_turn h k) (λ a b c d h k. ap₂ v.branches h k) (λ x. refl) (λ k names. refl) (λ a b h. ap v.node h)
