-- The line of a cell.
use Rattle.std.specs.Prelude.{ℕ, List, [], ◌++◌, codes, decimal, slice_get}
use Rattle.std.specs.Option.{option_map_or}
use Rattle.lucid_core.specs.Parts.{CoreParts}

-- `sS NAME[CELL] = VALUE`
abbrev pub line_of : ℕ → List ℕ → ℕ → ℕ → List ℕ
line_of switch name cell value =
    codes "s" ++ decimal switch ++ codes " " ++ name ++ codes "[" ++ decimal cell ++ codes "] = " ++ decimal value ++ codes "\n"

-- The name of an array; none where there is no such array.
abbrev pub array_name : CoreParts → ℕ → List ℕ
array_name core array = option_map_or (λ a. a.name) (slice_get core.arrays array) []
