-- A fold into functions, at one node and one argument.
use Rattle.std.proofs.Common.{◌≡◌, ap}
use Rattle.lucid_core.specs.declared.body.Expr.{Expr}
use Rattle.lucid_core.specs.declared.body.Stmt.{Stmt}
use Rattle.lucid_core.specs.declared.body.Touch.{Touch}
use Rattle.lucid_core.specs.declared.body.Expr.TheOpen.{Expr-F, Stmt-F, Touch-F}
use Rattle.lucid_core.specs.declared.body.Expr.TheViews.{roll-Expr, roll-Stmt, roll-Touch}
use Rattle.lucid_core.specs.declared.body.Expr.TheFolds.{fold-Expr, fold-Stmt, fold-Touch, fold-roll-Expr, fold-roll-Stmt, fold-roll-Touch, map-Expr, map-Stmt, map-Touch}

module _ {S A B C : Type 0} (e : Expr-F (S → A) (S → B) (S → C) → S → A) (s : Stmt-F (S → A) (S → B) (S → C) → S → B) (t : Touch-F (S → A) (S → B) (S → C) → S → C) where
  abbrev of_expr : Expr → S → A
  of_expr = fold-Expr (S → A) (S → B) (S → C) e s t

  abbrev of_stmt : Stmt → S → B
  of_stmt = fold-Stmt (S → A) (S → B) (S → C) e s t

  abbrev of_touch : Touch → S → C
  of_touch = fold-Touch (S → A) (S → B) (S → C) e s t

  pub expr_at : (y : Expr-F Expr Stmt Touch) (x : S) → of_expr (roll-Expr y) x ≡ e (map-Expr Expr Stmt Touch (S → A) (S → B) (S → C) of_expr of_stmt of_touch y) x
  expr_at y x = ap (λ (f : S → A). f x) (fold-roll-Expr (S → A) (S → B) (S → C) e s t y)

  pub stmt_at : (y : Stmt-F Expr Stmt Touch) (x : S) → of_stmt (roll-Stmt y) x ≡ s (map-Stmt Expr Stmt Touch (S → A) (S → B) (S → C) of_expr of_stmt of_touch y) x
  stmt_at y x = ap (λ (f : S → B). f x) (fold-roll-Stmt (S → A) (S → B) (S → C) e s t y)

  pub touch_at : (y : Touch-F Expr Stmt Touch) (x : S) → of_touch (roll-Touch y) x ≡ t (map-Touch Expr Stmt Touch (S → A) (S → B) (S → C) of_expr of_stmt of_touch y) x
  touch_at y x = ap (λ (f : S → C). f x) (fold-roll-Touch (S → A) (S → B) (S → C) e s t y)

pub ruleset folds = (expr_at, stmt_at, touch_at, fold-roll-Expr, fold-roll-Stmt, fold-roll-Touch)
