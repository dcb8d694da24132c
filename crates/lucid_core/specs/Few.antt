-- Hashes have at most 9 operands and prints at most 8: limits that the builder of a body may test once, for the whole body.
use Rattle.std.specs.Prelude.{List, Bool, ◌&&◌, length, map, nat_le}
use Rattle.lucid_core.specs.declared.body.Expr.{Expr}
use Rattle.lucid_core.specs.declared.body.Stmt.{Stmt}
use Rattle.lucid_core.specs.declared.body.Touch.{Touch}
use Rattle.lucid_core.specs.declared.body.Expr.TheOpen.{Expr-F, Stmt-F, Touch-F}
use Rattle.lucid_core.specs.declared.body.Expr.TheFolds.{fold-Expr, fold-Stmt, fold-Touch}
use Rattle.lucid_core.specs.Children.{expr_children, stmt_children, touch_children}
use Rattle.lucid_core.specs.Numbers.{all_hold}

abbrev pub expr_step : Expr-F Bool Bool Bool → Bool
expr_step (Expr-F.Hash w xs) = nat_le (length xs) 9 && all_hold xs
expr_step e = all_hold (expr_children e)

abbrev pub touch_step : Touch-F Bool Bool Bool → Bool
touch_step t = all_hold (touch_children t)

abbrev pub stmt_step : Stmt-F Bool Bool Bool → Bool
stmt_step (Stmt-F.Say form xs) = nat_le (length xs) 8 && all_hold xs
stmt_step s = all_hold (stmt_children s)

abbrev pub expr_few : Expr → Bool
expr_few = fold-Expr Bool Bool Bool expr_step stmt_step touch_step

abbrev pub stmt_few : Stmt → Bool
stmt_few = fold-Stmt Bool Bool Bool expr_step stmt_step touch_step

abbrev pub touch_few : Touch → Bool
touch_few = fold-Touch Bool Bool Bool expr_step stmt_step touch_step

abbrev pub arguments_are_few : List Stmt → Bool
arguments_are_few ss = all_hold (map stmt_few ss)
