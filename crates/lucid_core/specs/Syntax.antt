-- The forms of a core and of a flat core.
use Rattle.std.specs.Prelude.{Bool, false, ◌&&◌}
use Rattle.std.specs.List.{list_all}
use Rattle.lucid_core.specs.declared.body.Expr.{Expr}
use Rattle.lucid_core.specs.declared.body.Stmt.{Stmt}
use Rattle.lucid_core.specs.declared.body.Touch.{Touch}
use Rattle.lucid_core.specs.declared.body.Expr.TheOpen.{Expr-F, Stmt-F, Touch-F}
use Rattle.lucid_core.specs.declared.body.Expr.TheFolds.{fold-Expr, fold-Stmt, fold-Touch}
use Rattle.lucid_core.specs.Children.{expr_children, stmt_children, touch_children}
use Rattle.lucid_core.specs.Numbers.{all_hold}
use Rattle.lucid_core.specs.Parts.{CoreParts}

abbrev pub touch_step : Touch-F Bool Bool Bool → Bool
touch_step t = all_hold (touch_children t)

-- No call is inlined.
abbrev pub not_inlined : Expr-F Bool Bool Bool → Bool
not_inlined (Expr-F.Inlined given ss) = false
not_inlined e = all_hold (expr_children e)

abbrev pub any_stmt : Stmt-F Bool Bool Bool → Bool
any_stmt s = all_hold (stmt_children s)

abbrev pub is_core_expr : Expr → Bool
is_core_expr = fold-Expr Bool Bool Bool not_inlined any_stmt touch_step

abbrev pub is_core_stmt : Stmt → Bool
is_core_stmt = fold-Stmt Bool Bool Bool not_inlined any_stmt touch_step

abbrev pub is_core_touch : Touch → Bool
is_core_touch = fold-Touch Bool Bool Bool not_inlined any_stmt touch_step

-- Each call is inlined, and each group is replaced by its members.
abbrev pub not_call : Expr-F Bool Bool Bool → Bool
not_call (Expr-F.Fun k names xs) = false
not_call e = all_hold (expr_children e)

abbrev pub not_group : Stmt-F Bool Bool Bool → Bool
not_group (Stmt-F.Multi event xs delay members) = false
not_group s = all_hold (stmt_children s)

abbrev pub is_flat_expr : Expr → Bool
is_flat_expr = fold-Expr Bool Bool Bool not_call not_group touch_step

abbrev pub is_flat_stmt : Stmt → Bool
is_flat_stmt = fold-Stmt Bool Bool Bool not_call not_group touch_step

abbrev pub is_flat_touch : Touch → Bool
is_flat_touch = fold-Touch Bool Bool Bool not_call not_group touch_step

abbrev pub has_core_syntax : CoreParts → Bool
has_core_syntax parts = list_all (λ f. list_all is_core_stmt f.body) parts.funs && list_all (λ h. list_all is_core_stmt h.body) parts.handlers

abbrev pub has_flat_syntax : CoreParts → Bool
has_flat_syntax parts = list_all (λ h. list_all is_flat_stmt h.body) parts.handlers
