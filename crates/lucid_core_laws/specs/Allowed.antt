-- The forms of a program: in a core calls and groups, in a flat program inlined calls. It is lucid_core's rule on syntax, for both at
-- once.
use Rattle.std.specs.Prelude.{Bool, ◌&&◌, not}
use Rattle.lucid_core.specs.declared.body.Expr.{Expr}
use Rattle.lucid_core.specs.declared.body.Stmt.{Stmt}
use Rattle.lucid_core.specs.declared.body.Touch.{Touch}
use Rattle.lucid_core.specs.declared.body.Expr.TheOpen.{Expr-F, Stmt-F}
use Rattle.lucid_core.specs.declared.body.Expr.TheFolds.{fold-Expr, fold-Stmt, fold-Touch}
use Rattle.lucid_core.specs.Children.{expr_children, stmt_children}
use Rattle.lucid_core.specs.Numbers.{all_hold}
use Rattle.lucid_core.specs.Syntax.{touch_step}

abbrev pub expr_step : Bool → Expr-F Bool Bool Bool → Bool
expr_step flat (Expr-F.Inlined given ss) = flat && all_hold (expr_children (Expr-F.Inlined given ss))
expr_step flat (Expr-F.Fun k names xs) = not flat && all_hold xs
expr_step flat e = all_hold (expr_children e)

abbrev pub stmt_step : Bool → Stmt-F Bool Bool Bool → Bool
stmt_step flat (Stmt-F.Multi event xs delay members) = not flat && all_hold (stmt_children (Stmt-F.Multi event xs delay members))
stmt_step flat s = all_hold (stmt_children s)

abbrev pub expr_allowed : Bool → Expr → Bool
expr_allowed flat = fold-Expr Bool Bool Bool (expr_step flat) (stmt_step flat) touch_step

abbrev pub stmt_allowed : Bool → Stmt → Bool
stmt_allowed flat = fold-Stmt Bool Bool Bool (expr_step flat) (stmt_step flat) touch_step

abbrev pub touch_allowed : Bool → Touch → Bool
touch_allowed flat = fold-Touch Bool Bool Bool (expr_step flat) (stmt_step flat) touch_step
