-- The cells of a program's arrays: a list of lists, by array and cell.
use Rattle.std.specs.Prelude.{ℕ, ◌%◌, ◌^◌, List, [], ◌∷◌, Bool, true, false, ◌&&◌, length, map, nat_eq, nat_lt, replicate, slice_index, slice_index_or, slice_set}
use Rattle.std.specs.List.{list_all}
use Rattle.lucid_base.specs.declared.array.ArrayDef.{ArrayDef}

-- all cells 0
abbrev pub zero_cells : List ArrayDef → List (List ℕ)
zero_cells arrays = map (λ a. replicate a.size 0) arrays

-- the cells of one array, none where it isn't there
abbrev pub row_of : List (List ℕ) → ℕ → List ℕ
row_of cells array = slice_index_or cells array []

-- where index i lies: cell i modulo the size
abbrev pub place_of : List ℕ → ℕ → ℕ
place_of row i = i % length row

-- the value of cell i of an array
abbrev pub cell_at : List (List ℕ) → ℕ → ℕ → ℕ
cell_at cells array i = slice_index (row_of cells array) (place_of (row_of cells array) i)

-- the cells once cell i of an array holds this
abbrev pub with_cell : List (List ℕ) → ℕ → ℕ → ℕ → List (List ℕ)
with_cell cells array i value = slice_set cells array (slice_set (row_of cells array) (place_of (row_of cells array) i) value)

-- as many cells as declared, each of which holds a number within the cell width
abbrev pub row_fits : ArrayDef → List ℕ → Bool
row_fits a row = nat_eq (length row) a.size && list_all (λ value. nat_lt value (2 ^ a.width)) row

-- cells of these arrays: as many lists, each of which fits its array
abbrev pub rows_fit : List ArrayDef → List (List ℕ) → Bool
rows_fit [] [] = true
rows_fit (a ∷ arrays) (row ∷ rows) = row_fits a row && rows_fit arrays rows
rows_fit _ _ = false
