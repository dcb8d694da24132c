-- The parts of a body in the order in which they are evaluated: one walk, which the ends of bodies and their paths share.
use Rattle.std.specs.Prelude.{ℕ, List, [], ◌∷◌, Option, None, Some, Bool, true, false, map}
use Rattle.lucid_base.specs.declared.array.ArrayName.{ArrayName}
use Rattle.lucid_core.specs.declared.body.Expr.{Expr}
use Rattle.lucid_core.specs.declared.body.Stmt.{Stmt}
use Rattle.lucid_core.specs.declared.body.Touch.{Touch}
use Rattle.lucid_core.specs.declared.body.Expr.TheOpen.{Expr-F, Stmt-F, Touch-F}
use Rattle.lucid_core.specs.declared.body.Expr.TheFolds.{fold-Expr, fold-Stmt, fold-Touch}

-- The results of a walk for a form that calls no array, for one part after another, for the two branches of an if, for a call of an
-- array, for a call of function k with these arrays, and for any other node of the tree, once its parts are known.
pub record Walk (A : Type 0) : Type 0 where
  pub nothing : A
  pub in_turn : A → A → A
  pub branches : A → A → A
  pub array : ArrayName → A
  pub function : ℕ → List ArrayName → A
  pub node : A → A

abbrev pub sequence : {A : Type 0} → Walk A → List A → A
sequence w [] = w.nothing
sequence w (x ∷ xs) = w.in_turn x (sequence w xs)

abbrev pub optional : {A : Type 0} → Walk A → Option A → A
optional w None = w.nothing
optional w (Some x) = x

-- Both, the first one first where the test holds.
abbrev pub both : {A : Type 0} → Walk A → Bool → A → A → A
both w true x y = w.in_turn x y
both w false x y = w.in_turn y x

-- The node of a call is the call, after its arguments.
abbrev pub expr_step : {A : Type 0} → Walk A → Expr-F A A A → A
expr_step w (Expr-F.Fixed n) = w.node w.nothing
expr_step w (Expr-F.Local i) = w.node w.nothing
expr_step w Expr-F.Now = w.node w.nothing
expr_step w Expr-F.Me = w.node w.nothing
expr_step w (Expr-F.Un op x) = w.node x
expr_step w (Expr-F.Bin op x y) = w.node (w.in_turn x y)
expr_step w (Expr-F.Cmp op x y) = w.node (w.in_turn x y)
expr_step w (Expr-F.Cast width x) = w.node x
expr_step w (Expr-F.Hash width xs) = w.node (sequence w xs)
expr_step w (Expr-F.Array t) = w.node t
expr_step w (Expr-F.Fun k names xs) = w.in_turn (sequence w xs) (w.function k names)
expr_step w (Expr-F.Inlined given ss) = w.node (w.in_turn (sequence w (map (λ g. g.1) given)) (sequence w ss))

abbrev pub touch_step : {A : Type 0} → Walk A → Touch-F A A A → A
touch_step w t = w.in_turn t.index (w.in_turn t.get_arg (w.in_turn t.set_arg (w.array t.array)))

abbrev pub stmt_parts : {A : Type 0} → Walk A → Stmt-F A A A → A
stmt_parts w (Stmt-F.Assign i x) = x
stmt_parts w (Stmt-F.Drop x) = x
stmt_parts w (Stmt-F.If x ss ts) = w.in_turn x (w.branches (sequence w ss) (sequence w ts))
stmt_parts w (Stmt-F.Gen event xs delay to delay_first) = w.in_turn (sequence w xs) (both w delay_first (optional w delay) (optional w to))
stmt_parts w (Stmt-F.Multi event xs delay members) = w.in_turn (sequence w xs) (optional w delay)
stmt_parts w (Stmt-F.Say form xs) = sequence w xs
stmt_parts w (Stmt-F.Return x) = optional w x

abbrev pub stmt_step : {A : Type 0} → Walk A → Stmt-F A A A → A
stmt_step w s = w.node (stmt_parts w s)

abbrev pub expr_walk : {A : Type 0} → Walk A → Expr → A
expr_walk {A} w = fold-Expr A A A (expr_step w) (stmt_step w) (touch_step w)

abbrev pub stmt_walk : {A : Type 0} → Walk A → Stmt → A
stmt_walk {A} w = fold-Stmt A A A (expr_step w) (stmt_step w) (touch_step w)

abbrev pub touch_walk : {A : Type 0} → Walk A → Touch → A
touch_walk {A} w = fold-Touch A A A (expr_step w) (stmt_step w) (touch_step w)

abbrev pub body_walk : {A : Type 0} → Walk A → List Stmt → A
body_walk w body = sequence w (map (stmt_walk w) body)
