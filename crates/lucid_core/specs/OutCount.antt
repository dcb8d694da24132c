-- How many outs a body gives at most, over all its paths.
use Rattle.std.specs.Prelude.{ℕ, ◌+◌, max, List, [], ◌∷◌, ◌++◌, Bool, ◌&&◌, length, map, nat_le, slice_index}
use Rattle.std.specs.List.{list_all}
use Rattle.lucid_core.specs.declared.body.Expr.{Expr}
use Rattle.lucid_core.specs.declared.body.Stmt.{Stmt}
use Rattle.lucid_core.specs.declared.body.Touch.{Touch}
use Rattle.lucid_core.specs.declared.body.Expr.TheOpen.{Expr-F, Stmt-F, Touch-F}
use Rattle.lucid_core.specs.declared.body.Expr.TheFolds.{fold-Expr, fold-Stmt, fold-Touch}
use Rattle.lucid_core.specs.declared.defs.FunDef.{FunDef}
use Rattle.lucid_core.specs.Children.{expr_children, stmt_children, touch_children}
use Rattle.lucid_core.specs.Parts.{CoreParts}

-- A count, from the counts of the functions before the body.
abbrev pub Count : Type 0
Count = List ℕ → ℕ

abbrev pub total : List Count → Count
total [] funs = 0
total (c ∷ cs) funs = c funs + total cs funs

abbrev pub expr_step : Expr-F Count Count Count → Count
expr_step (Expr-F.Fun k names xs) = λ funs. total xs funs + slice_index funs k
expr_step e = total (expr_children e)

abbrev pub touch_step : Touch-F Count Count Count → Count
touch_step t = total (touch_children t)

abbrev pub stmt_step : Stmt-F Count Count Count → Count
stmt_step (Stmt-F.If x ss ts) = λ funs. x funs + max (total ss funs) (total ts funs)
stmt_step (Stmt-F.Gen event xs delay to delay_first) = λ funs. total (stmt_children (Stmt-F.Gen event xs delay to delay_first)) funs + 1
stmt_step (Stmt-F.Multi event xs delay members) = λ funs. total (stmt_children (Stmt-F.Multi event xs delay members)) funs + length members
stmt_step (Stmt-F.Say form xs) = λ funs. total xs funs + 1
stmt_step s = total (stmt_children s)

abbrev pub expr_outs : Expr → Count
expr_outs = fold-Expr Count Count Count expr_step stmt_step touch_step

abbrev pub stmt_outs : Stmt → Count
stmt_outs = fold-Stmt Count Count Count expr_step stmt_step touch_step

abbrev pub touch_outs : Touch → Count
touch_outs = fold-Touch Count Count Count expr_step stmt_step touch_step

abbrev pub body_outs : List Stmt → Count
body_outs ss = total (map stmt_outs ss)

-- The counts of these functions, behind those already counted.
abbrev pub funs_outs : List ℕ → List FunDef → List ℕ
funs_outs counted [] = counted
funs_outs counted (f ∷ fs) = funs_outs (counted ++ body_outs f.body counted ∷ []) fs

-- No path of a function or a handler has more than 8 outs.
abbrev pub outs_are_few : CoreParts → Bool
outs_are_few parts =
    let counts = funs_outs [] parts.funs in
    list_all (λ n. nat_le n 8) counts && list_all (λ h. nat_le (body_outs h.body counts) 8) parts.handlers
