-- The width of an expression's value, read off the expression alone. If widths agree it is that of the typing rules.
use Rattle.std.specs.Prelude.{ℕ, List, [], ◌∷◌, Option, None, Some, if◌then◌else◌, slice_get}
use Rattle.std.specs.Option.{option_and_then, option_or}
use Rattle.lucid_core.specs.declared.body.Expr.{Expr}
use Rattle.lucid_core.specs.declared.body.Stmt.{Stmt}
use Rattle.lucid_core.specs.declared.body.Touch.{Touch}
use Rattle.lucid_core.specs.declared.body.Expr.TheOpen.{Expr-F, Stmt-F, Touch-F}
use Rattle.lucid_core.specs.declared.body.Expr.TheFolds.{fold-Expr, fold-Stmt, fold-Touch}
use Rattle.lucid_core.specs.declared.defs.FunDef.{FunDef}
use Rattle.lucid_core.specs.Typing.{Answer}

-- From the widths of the locals and the functions before.
abbrev pub Read : Type 0 → Type 0
Read A = List ℕ → List FunDef → A

-- The width of the first return, if there is one.
abbrev pub first_of : List (Read (Option Answer)) → Read (Option Answer)
first_of [] = λ locals funs. None
first_of (s ∷ ss) = λ locals funs. option_or (s locals funs) (first_of ss locals funs)

abbrev pub expr_step : Expr-F (Read Answer) (Read (Option Answer)) (Read Answer) → Read Answer
expr_step (Expr-F.Fixed n) = λ locals funs. Some n.width
expr_step (Expr-F.Local i) = λ locals funs. slice_get locals i
expr_step Expr-F.Now = λ locals funs. Some 32
expr_step Expr-F.Me = λ locals funs. Some 32
expr_step (Expr-F.Un op x) = x
expr_step (Expr-F.Bin op x y) = x
expr_step (Expr-F.Cmp op x y) = λ locals funs. Some 1
expr_step (Expr-F.Cast w x) = λ locals funs. Some w
expr_step (Expr-F.Hash w xs) = λ locals funs. Some w
expr_step (Expr-F.Array t) = t
expr_step (Expr-F.Fun k names xs) = λ locals funs. option_and_then (λ f. f.answer) (slice_get funs k)
expr_step (Expr-F.Inlined given ss) = λ locals funs. option_and_then (λ answer. answer) (first_of ss locals funs)

abbrev pub touch_step : Touch-F (Read Answer) (Read (Option Answer)) (Read Answer) → Read Answer
touch_step t = λ locals funs. if t.answers then Some t.get.width else None

abbrev pub stmt_step : Stmt-F (Read Answer) (Read (Option Answer)) (Read Answer) → Read (Option Answer)
stmt_step (Stmt-F.Return None) = λ locals funs. Some None
stmt_step (Stmt-F.Return (Some x)) = λ locals funs. Some (x locals funs)
stmt_step (Stmt-F.If x ss ts) = λ locals funs. option_or (first_of ss locals funs) (first_of ts locals funs)
stmt_step s = λ locals funs. None

abbrev pub expr_width : Expr → Read Answer
expr_width = fold-Expr (Read Answer) (Read (Option Answer)) (Read Answer) expr_step stmt_step touch_step

abbrev pub first_return : Stmt → Read (Option Answer)
first_return = fold-Stmt (Read Answer) (Read (Option Answer)) (Read Answer) expr_step stmt_step touch_step

abbrev pub touch_width : Touch → Read Answer
touch_width = fold-Touch (Read Answer) (Read (Option Answer)) (Read Answer) expr_step stmt_step touch_step
