-- A print has as many arguments as its text has `%d`.
use Rattle.std.specs.Prelude.{ℕ, ◌+◌, List, [], ◌∷◌, Bool, false, if◌then◌else◌, ◌&&◌, length, map, nat_eq, slice_get}
use Rattle.std.specs.List.{list_all}
use Rattle.std.specs.Option.{option_map_or}
use Rattle.lucid_core.specs.declared.body.Expr.{Expr}
use Rattle.lucid_core.specs.declared.body.Stmt.{Stmt}
use Rattle.lucid_core.specs.declared.body.Touch.{Touch}
use Rattle.lucid_core.specs.declared.body.Expr.TheOpen.{Expr-F, Stmt-F, Touch-F}
use Rattle.lucid_core.specs.declared.body.Expr.TheFolds.{fold-Expr, fold-Stmt, fold-Touch}
use Rattle.lucid_core.specs.Children.{expr_children, stmt_children, touch_children}
use Rattle.lucid_core.specs.Parts.{CoreParts}

-- The number of `%d` in a text; 37 is '%' and 100 is 'd'.
abbrev pub holes_of : List ℕ → ℕ
holes_of [] = 0
holes_of (a ∷ []) = 0
holes_of (a ∷ b ∷ rest) = if nat_eq a 37 && nat_eq b 100 then holes_of rest + 1 else holes_of (b ∷ rest)

-- From the texts of a program.
abbrev pub Printed : Type 0
Printed = List (List ℕ) → Bool

abbrev pub each_filled : List Printed → Printed
each_filled parts = λ forms. list_all (λ test. test forms) parts

abbrev pub expr_step : Expr-F Printed Printed Printed → Printed
expr_step e = each_filled (expr_children e)

abbrev pub touch_step : Touch-F Printed Printed Printed → Printed
touch_step t = each_filled (touch_children t)

abbrev pub stmt_step : Stmt-F Printed Printed Printed → Printed
stmt_step (Stmt-F.Say form xs) = λ forms. option_map_or (λ text. nat_eq (length xs) (holes_of text)) (slice_get forms form) false && each_filled xs forms
stmt_step s = each_filled (stmt_children s)

abbrev pub expr_texts : Expr → Printed
expr_texts = fold-Expr Printed Printed Printed expr_step stmt_step touch_step

abbrev pub stmt_texts : Stmt → Printed
stmt_texts = fold-Stmt Printed Printed Printed expr_step stmt_step touch_step

abbrev pub touch_texts : Touch → Printed
touch_texts = fold-Touch Printed Printed Printed expr_step stmt_step touch_step

abbrev pub body_fills_texts : List Stmt → Printed
body_fills_texts ss = each_filled (map stmt_texts ss)

abbrev pub texts_are_filled : CoreParts → Bool
texts_are_filled parts =
    list_all (λ f. body_fills_texts f.body parts.forms) parts.funs && list_all (λ h. body_fills_texts h.body parts.forms) parts.handlers
