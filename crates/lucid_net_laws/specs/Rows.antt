-- A pipe by its rows: at each stage the cells of the stage, and the packet that is there.
use Rattle.std.specs.Prelude.{List, map}
use Rattle.lucid_pipe.specs.Packets.{Packet}
use Rattle.lucid_pipe.specs.Pipe.{PipeParts}
use Rattle.lucid_pipe.specs.Rows.{by_array, pipe_rows, steps_of}
pub use Rattle.lucid_pipe.specs.Rows.{Cells}
unfoldable pub use Rattle.lucid_pipe.specs.Rows.{first_cells}
use Rattle.lucid_pipe_laws.specs.Rows.{Row, Steps}
use Rattle.lucid_tables.specs.Placed.{PlacedParts}

abbrev pub Rows : Type 0
Rows = List (Row Cells Packet)

-- The effect of a stage of the code on its cells and a packet; the cells by array, from those by stage; and the rows of a pipe. They don't unfold, so that statements about networks stay as short as they are.
unfoldable pub step_of : PlacedParts → Steps Cells Packet
step_of placed = steps_of placed.code placed.stages

unfoldable pub cells_of : PlacedParts → List Cells → Cells
cells_of placed cs = by_array placed.code.arrays placed.stages cs

unfoldable pub rows_in : PipeParts → Rows
rows_in pipe = pipe_rows pipe

-- The pipe of these rows.
abbrev pub with_rows : PlacedParts → Rows → PipeParts
with_rows placed rows = record { placed = placed; cells = cells_of placed (map (λ r. r.cells) rows); slots = map (λ r. r.slot) rows }
