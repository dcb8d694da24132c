-- The limits on numbers of things, and the fixed numbers of memops.
use Rattle.std.specs.Prelude.{ℕ, List, Bool, ◌&&◌, length, map, nat_lt, nat_le}
use Rattle.std.specs.List.{list_all}
use Rattle.lucid_core.specs.declared.body.Expr.{Expr}
use Rattle.lucid_core.specs.declared.body.Stmt.{Stmt}
use Rattle.lucid_core.specs.declared.body.Touch.{Touch}
use Rattle.lucid_core.specs.declared.body.Expr.TheOpen.{Expr-F, Stmt-F, Touch-F}
use Rattle.lucid_core.specs.declared.body.Expr.TheFolds.{fold-Expr, fold-Stmt, fold-Touch}
use Rattle.lucid_core.specs.declared.defs.FunDef.{FunDef}
use Rattle.lucid_core.specs.Children.{expr_children, stmt_children, touch_children}
use Rattle.lucid_core.specs.Parts.{CoreParts}
use Rattle.lucid_base.specs.Memop.{memop_fits}
use Rattle.lucid_base.specs.Numbers.{all_differ}
use Rattle.lucid_core.specs.Numbers.{all_hold}

abbrev pub is_between : ℕ → ℕ → ℕ → Bool
is_between least most n = nat_le least n && nat_le n most

abbrev pub are_members : List ℕ → Bool
are_members members = is_between 1 8 (length members) && list_all (λ m. nat_lt m 64) members && all_differ members

-- A hash has 1 to 9 operands, its seed among them.
abbrev pub expr_step : Expr-F Bool Bool Bool → Bool
expr_step (Expr-F.Hash w xs) = is_between 1 9 (length xs) && all_hold xs
expr_step e = all_hold (expr_children e)

abbrev pub touch_step : Touch-F Bool Bool Bool → Bool
touch_step t = memop_fits t.get && memop_fits t.set && all_hold (touch_children t)

-- Events and prints have at most 8 arguments. A group has 1 to 8 members, each a switch, none twice.
abbrev pub stmt_step : Stmt-F Bool Bool Bool → Bool
stmt_step (Stmt-F.Gen event xs delay to delay_first) = nat_le (length xs) 8 && all_hold (stmt_children (Stmt-F.Gen event xs delay to delay_first))
stmt_step (Stmt-F.Multi event xs delay members) =
    nat_le (length xs) 8 && are_members members && all_hold (stmt_children (Stmt-F.Multi event xs delay members))
stmt_step (Stmt-F.Say form xs) = nat_le (length xs) 8 && all_hold xs
stmt_step s = all_hold (stmt_children s)

abbrev pub expr_limits : Expr → Bool
expr_limits = fold-Expr Bool Bool Bool expr_step stmt_step touch_step

abbrev pub stmt_limits : Stmt → Bool
stmt_limits = fold-Stmt Bool Bool Bool expr_step stmt_step touch_step

abbrev pub touch_limits : Touch → Bool
touch_limits = fold-Touch Bool Bool Bool expr_step stmt_step touch_step

abbrev pub body_keeps_limits : List Stmt → Bool
body_keeps_limits ss = all_hold (map stmt_limits ss)

-- At most 64 arrays of 1 to 65,536 cells; at most 8 array parameters and 8 value parameters.
abbrev pub declarations_keep_limits : CoreParts → Bool
declarations_keep_limits parts =
    nat_le (length parts.arrays) 64
    && list_all (λ a. is_between 1 65536 a.size) parts.arrays
    && list_all (λ m. memop_fits m.alu) parts.memops
    && list_all (λ e. nat_le (length e.params) 8) parts.events
    && list_all (λ f. nat_le (length f.arrays) 8 && nat_le f.params 8) parts.funs

abbrev pub funs_keep_limits : List FunDef → Bool
funs_keep_limits funs = list_all (λ f. body_keeps_limits f.body) funs

abbrev pub bodies_keep_limits : CoreParts → Bool
bodies_keep_limits parts = funs_keep_limits parts.funs && list_all (λ h. body_keeps_limits h.body) parts.handlers
