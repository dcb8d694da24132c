-- Everything that is named is there: arrays, events, functions, locals and texts. A function calls only functions before it.
use Rattle.std.specs.Prelude.{ℕ, List, Bool, ◌&&◌, length, map, nat_lt, nat_le}
use Rattle.std.specs.List.{list_all}
use Rattle.lucid_base.specs.declared.array.ArrayName.{ArrayName}
use Rattle.lucid_base.specs.declared.array.ArrayName.TheVariants.{Global, Param}
use Rattle.lucid_core.specs.declared.body.Expr.{Expr}
use Rattle.lucid_core.specs.declared.body.Stmt.{Stmt}
use Rattle.lucid_core.specs.declared.body.Touch.{Touch}
use Rattle.lucid_core.specs.declared.body.Expr.TheOpen.{Expr-F, Stmt-F, Touch-F}
use Rattle.lucid_core.specs.declared.body.Expr.TheFolds.{fold-Expr, fold-Stmt, fold-Touch}
use Rattle.lucid_core.specs.Children.{expr_children, stmt_children, touch_children}
use Rattle.lucid_core.specs.Parts.{CoreParts}
use Rattle.lucid_core.specs.Scope.{Test, each, bodies_pass}

-- A declared array, or an array parameter of the body.
abbrev pub is_array : List ℕ → List ℕ → ArrayName → Bool
is_array arrays params (Global a) = nat_lt a (length arrays)
is_array arrays params (Param i) = nat_lt i (length params)

abbrev pub expr_step : Expr-F Test Test Test → Test
expr_step (Expr-F.Local i) = λ s. nat_lt i (length s.locals)
expr_step (Expr-F.Fun k names xs) = λ s. nat_lt k (length s.funs) && list_all (is_array s.arrays s.params) names && each xs s
expr_step (Expr-F.Inlined given ss) = λ s. list_all (λ g. nat_lt g.0 (length s.locals) && g.1 s) given && each ss s
expr_step e = each (expr_children e)

abbrev pub touch_step : Touch-F Test Test Test → Test
touch_step t = λ s. is_array s.arrays s.params t.array && each (touch_children t) s

abbrev pub stmt_step : Stmt-F Test Test Test → Test
stmt_step (Stmt-F.Assign i x) = λ s. nat_lt i (length s.locals) && x s
stmt_step (Stmt-F.Gen event xs delay to delay_first) = λ s. nat_lt event (length s.events) && each (stmt_children (Stmt-F.Gen event xs delay to delay_first)) s
stmt_step (Stmt-F.Multi event xs delay members) = λ s. nat_lt event (length s.events) && each (stmt_children (Stmt-F.Multi event xs delay members)) s
stmt_step (Stmt-F.Say form xs) = λ s. nat_lt form (length s.forms) && each xs s
stmt_step x = each (stmt_children x)

abbrev pub expr_names : Expr → Test
expr_names = fold-Expr Test Test Test expr_step stmt_step touch_step

abbrev pub stmt_names : Stmt → Test
stmt_names = fold-Stmt Test Test Test expr_step stmt_step touch_step

abbrev pub touch_names : Touch → Test
touch_names = fold-Touch Test Test Test expr_step stmt_step touch_step

-- In all bodies; and a function's value parameters are locals of it.
abbrev pub names_are_there : CoreParts → Bool
names_are_there parts = bodies_pass (λ ss. each (map stmt_names ss)) parts && list_all (λ f. nat_le f.params (length f.locals)) parts.funs
