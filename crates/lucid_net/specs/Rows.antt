-- A pipe is its rows: at each stage the cells of the stage, and the packet that is there.
use Rattle.std.specs.Prelude.{◌≡◌, ℕ}
use Rattle.lucid_net_laws.specs.Stages.{fed}
use Rattle.lucid_net_spec.specs.Ways.{Network}
use Rattle.lucid_net_laws.specs.Rows.{Cells, first_cells, rows_in, step_of, with_rows}
use Rattle.lucid_net_laws.specs.PipeStages.{stages_of}
use Rattle.lucid_pipe.specs.Pipe.{PipeParts}
use Rattle.lucid_pipe_laws.specs.Stream.{picture}
use Rattle.lucid_tables.specs.Placed.{PlacedParts}

-- The cells of the arrays of a pipe.
abbrev pub held : PipeParts → Cells
held pipe = pipe.cells

-- It is a pipe of this code, and has the cells of its rows.
abbrev pub IsOf : PlacedParts → PipeParts → Type 0
IsOf placed pipe = pipe ≡ with_rows placed (rows_in pipe)

-- The pipe of a switch after this many ticks is the picture of the events that entered.
abbrev pub pipe_at : Network → PlacedParts → ℕ → ℕ → PipeParts
pipe_at net placed at switch = with_rows placed (picture (step_of placed) (first_cells placed) (fed net (stages_of placed) switch) at)

abbrev pub PipeStands : Network → PlacedParts → ℕ → ℕ → PipeParts → Type 0
PipeStands net placed switch at pipe = pipe ≡ pipe_at net placed at switch
