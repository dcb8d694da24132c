-- The text of lines about tables, after a line of counts.
use Rattle.std.specs.Prelude.{ℕ, ◌<◌, List, [], ◌∷◌, ◌++◌, length, codes, decimal, slice_get}
use Rattle.std.specs.List.{flat_map, All}
use Rattle.std.specs.Option.{option_map_or}
use Rattle.lucid_base.specs.declared.array.ArrayDef.{ArrayDef}
use Rattle.lucid_code.specs.Parts.{CodeParts}
use Rattle.lucid_layout_text.specs.declared.table_line.TableLine.{TableLine}

-- `ops N bits N nodes N`
abbrev pub counts_text : ℕ → ℕ → ℕ → List ℕ
counts_text ops bits nodes = codes "ops " ++ decimal ops ++ codes " bits " ++ decimal bits ++ codes " nodes " ++ decimal nodes ++ codes "\n"

-- The name of an array; none where there is no such array.
abbrev pub name_at : List ArrayDef → ℕ → List ℕ
name_at arrays g = option_map_or (λ (a : ArrayDef). a.name) (slice_get arrays g) []

-- ` NAME`
abbrev pub name_text : List ArrayDef → ℕ → List ℕ
name_text arrays g = codes " " ++ name_at arrays g

-- ` arrays NAME ..`, and nothing where there are none.
abbrev pub arrays_text : List ArrayDef → List ℕ → List ℕ
arrays_text arrays [] = []
arrays_text arrays (g ∷ gs) = codes " arrays" ++ flat_map (name_text arrays) (g ∷ gs)

-- `stage K table J rows R ops O`
abbrev pub line_head : TableLine → List ℕ
line_head l =
    codes "stage " ++ decimal l.stage ++ codes " table " ++ decimal l.table
    ++ codes " rows " ++ decimal l.rows ++ codes " ops " ++ decimal l.ops

abbrev pub line_text : List ArrayDef → TableLine → List ℕ
line_text arrays l = line_head l ++ (arrays_text arrays l.arrays ++ codes "\n")

-- Code of this many bits and nodes, with these lines.
abbrev pub text_of : CodeParts → ℕ → ℕ → List TableLine → List ℕ
text_of code bits nodes lines = counts_text (length code.ops) bits nodes ++ flat_map (line_text code.arrays) lines

-- Every array of the lines is one of `count`.
abbrev pub ArraysAreThere : ℕ → List TableLine → Type 0
ArraysAreThere count lines = All (λ (l : TableLine). All (λ g. g < count) l.arrays) lines
