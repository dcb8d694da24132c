-- A pipe as rows (lucid_pipe_laws): each stage with the cells of its own arrays, and the packet before it.
use Rattle.std.specs.Prelude.{◌≡◌, ℕ, suc, List, [], ◌∷◌, Option, None, Bool, IsTrue, if◌then◌else◌, length, map, slice_index_or}
use Rattle.std.specs.List.{range_with_len}
use Rattle.std.specs.Option.{option_map_or}
use Rattle.lucid_base.specs.Cells.{row_of, rows_fit, zero_cells}
use Rattle.lucid_base.specs.declared.array.ArrayDef.{ArrayDef}
use Rattle.lucid_code.specs.Parts.{CodeParts}
use Rattle.lucid_tables.specs.declared.stage.StageCode.{StageCode}
use Rattle.lucid_tables.specs.Numbers.{is_in}
use Rattle.lucid_tables.specs.Placed.{PlacedParts, stage_of}
use Rattle.lucid_pipe.specs.Packets.{Packet, left_by}
use Rattle.lucid_pipe.specs.Pipe.{PipeParts, runs_stage}
use Rattle.lucid_pipe_laws.specs.Rows.{Row, Steps, row}

-- Cells by array.
abbrev pub Cells : Type 0
Cells = List (List ℕ)

-- The cells of the arrays that pass a test; the others have none. Arrays are numbered from g.
abbrev pub chosen : (ℕ → Bool) → ℕ → Cells → Cells
chosen mine g [] = []
chosen mine g (cells ∷ rest) = (if mine g then cells else []) ∷ chosen mine (suc g) rest

-- The cells of a stage's own arrays.
abbrev pub own : StageCode → Cells → Cells
own s cells = chosen (λ g. is_in g s.arrays) 0 cells

-- Those of each stage, in order.
abbrev pub owns : List StageCode → Cells → List Cells
owns [] cells = []
owns (s ∷ stages) cells = own s cells ∷ owns stages cells

-- The cells of each stage, all 0. They don't unfold, so that statements about pipes stay short.
unfoldable pub first_cells : PlacedParts → List Cells
first_cells placed = owns placed.stages (zero_cells placed.code.arrays)

-- The cells by stage are those of cells that fit these arrays, and an array that is in no stage holds 0.
pub record AreOwned (placed : PlacedParts) (arrays : List ArrayDef) (cs : List Cells) : Type 0 where
  pub all : Cells
  pub fit : IsTrue (rows_fit arrays all)
  pub parted : cs ≡ owns placed.stages all
  pub long : length all ≡ length placed.code.arrays
  pub rest : (g : ℕ) → stage_of placed.stages g ≡ None → row_of all g ≡ row_of (zero_cells placed.code.arrays) g

-- The effect of stage k on cells and a packet.
abbrev pub steps_of : CodeParts → List StageCode → Steps Cells Packet
steps_of code stages k cells p =
    let m = runs_stage code stages cells k p in
    (m.cells, left_by m p)

-- Each stage's own cells, and the content of its slot.
abbrev pub rows_of : List StageCode → List (Option Packet) → Cells → List (Row Cells Packet)
rows_of [] slots cells = []
rows_of (s ∷ stages) [] cells = []
rows_of (s ∷ stages) (slot ∷ slots) cells = row (own s cells) slot ∷ rows_of stages slots cells

abbrev pub pipe_rows : PipeParts → List (Row Cells Packet)
pipe_rows pipe = rows_of pipe.placed.stages pipe.slots pipe.cells

-- The cells of array g: those of its stage, and all 0 if it is in none.
abbrev pub array_cells : List ArrayDef → List StageCode → List Cells → ℕ → List ℕ
array_cells arrays stages cells g = option_map_or (λ k. row_of (slice_index_or cells k []) g) (stage_of stages g) (row_of (zero_cells arrays) g)

-- The cells by array again, of the cells by stage.
abbrev pub by_array : List ArrayDef → List StageCode → List Cells → Cells
by_array arrays stages cells = map (array_cells arrays stages cells) (range_with_len 0 (length arrays))
