-- The two counts of a program that decide whether its flat form is built: found over the program itself, handler by handler.
use Rattle.std.specs.Prelude.{ℕ, ◌+◌, List, [], ◌∷◌, ◌++◌, length, map, fold, option_to_list, slice_index}
use Rattle.lucid_core.specs.declared.body.Expr.{Expr}
use Rattle.lucid_core.specs.declared.body.Stmt.{Stmt}
use Rattle.lucid_core.specs.declared.body.Touch.{Touch}
use Rattle.lucid_core.specs.declared.body.Expr.TheOpen.{Expr-F, Stmt-F, Touch-F}
use Rattle.lucid_core.specs.declared.body.Expr.TheFolds.{fold-Expr, fold-Stmt, fold-Touch}
use Rattle.lucid_core.specs.declared.defs.FunDef.{FunDef}
use Rattle.lucid_core.specs.declared.defs.HandlerDef.{HandlerDef}
use Rattle.lucid_core.specs.Children.{expr_children, stmt_children, touch_children}
use Rattle.lucid_core.specs.Length.{fun_lengths, handler_length}
use Rattle.lucid_core.specs.OutCount.{Count, total}
use Rattle.lucid_core.specs.Parts.{CoreParts}
use Rattle.lucid_effects_spec.specs.Size.{flat_stmt_size, total as sum_of}

-- How long the normal form of each handler is. It reads a core and a flat core alike.
abbrev pub handler_lengths : CoreParts → List ℕ
handler_lengths parts = map (handler_length parts (fun_lengths [] parts.funs)) parts.handlers

-- The size of the flat form, from the sizes of the functions before: each statement counts, each call with its function's size,
-- and a group as an assignment of each argument and of its delay and an event to each member.
abbrev pub expr_step : Expr-F Count Count Count → Count
expr_step (Expr-F.Fun k names xs) = λ funs. 1 + total xs funs + slice_index funs k
expr_step e = total (expr_children e)

abbrev pub touch_step : Touch-F Count Count Count → Count
touch_step t = total (touch_children t)

abbrev pub stmt_step : Stmt-F Count Count Count → Count
stmt_step (Stmt-F.Multi event xs delay members) =
    λ funs. total (xs ++ option_to_list delay) funs + length (xs ++ option_to_list delay) + length members
stmt_step s = λ funs. 1 + total (stmt_children s) funs

abbrev pub expr_size : Expr → Count
expr_size = fold-Expr Count Count Count expr_step stmt_step touch_step

abbrev pub stmt_size : Stmt → Count
stmt_size = fold-Stmt Count Count Count expr_step stmt_step touch_step

abbrev pub touch_size : Touch → Count
touch_size = fold-Touch Count Count Count expr_step stmt_step touch_step

abbrev pub body_size : List Stmt → Count
body_size ss = total (map stmt_size ss)

-- The sizes of functions, behind those already counted.
abbrev pub fun_sizes : List ℕ → List FunDef → List ℕ
fun_sizes before fs = fold (λ so_far f. so_far ++ body_size f.body so_far ∷ []) before fs

-- How large the flat form of each handler is.
abbrev pub handler_sizes : CoreParts → List ℕ
handler_sizes parts = map (λ h. body_size h.body (fun_sizes [] parts.funs)) parts.handlers

-- How large a flat handler is.
abbrev pub flat_handler_size : HandlerDef → ℕ
flat_handler_size h = sum_of (map flat_stmt_size h.body)
