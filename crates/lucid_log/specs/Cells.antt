-- The lines of the cells that aren't 0, by array and cell.
use Rattle.std.specs.Prelude.{ℕ, zero, suc, ◌+◌, List, [], ◌∷◌, ◌++◌, if◌then◌else◌, nat_eq}
use Rattle.lucid_base.specs.declared.array.ArrayDef.{ArrayDef}
use Rattle.lucid_base.specs.Cells.{cell_at}
use Rattle.lucid_log.specs.Cell.{line_of}

-- The line of one cell, unless it holds 0.
abbrev pub shown_line : ℕ → List ℕ → ℕ → ℕ → List ℕ
shown_line switch name cell value = if nat_eq value 0 then [] else line_of switch name cell value

-- The lines of `count` cells of this array, which has this name, from this cell on.
unfoldable pub lines_from : ℕ → List (List ℕ) → ℕ → List ℕ → ℕ → ℕ → List ℕ
lines_from switch cells array name cell zero = []
lines_from switch cells array name cell (suc count) =
    shown_line switch name cell (cell_at cells array cell) ++ lines_from switch cells array name (cell + 1) count

-- The lines of these arrays, the first of which has this number.
abbrev pub arrays_from : ℕ → List (List ℕ) → ℕ → List ArrayDef → List ℕ
arrays_from switch cells array [] = []
arrays_from switch cells array (a ∷ rest) = lines_from switch cells array a.name 0 a.size ++ arrays_from switch cells (array + 1) rest

-- The lines of the cells of these arrays on a switch.
abbrev pub cells_text : ℕ → List ArrayDef → List (List ℕ) → List ℕ
cells_text switch arrays cells = arrays_from switch cells 0 arrays
