-- Laws of pipes.
use Rattle.std.specs.Prelude.{◌≡◌, ℕ, ◌+◌, List, ◌++◌, None, Some, true, length, slice_get}
use Rattle.lucid_base.specs.declared.event.Event.{Event}
use Rattle.std.specs.Option.{option_map}
use Rattle.lucid_base.specs.Cells.{row_of, zero_cells}
use Rattle.lucid_tables.specs.declared.stage.StageCode.{StageCode}
use Rattle.lucid_tables.specs.Numbers.{is_in}
use Rattle.lucid_tables.specs.Placed.{PlacedParts, stage_of}
use Rattle.lucid_tables.specs.Stages.{pass_from, pass}
use Rattle.lucid_pipe.specs.Moves.{Move, after_moves}
use Rattle.lucid_pipe.specs.Packets.{Packet, meets, left_by, told, entering, sent_by}
use Rattle.lucid_pipe.specs.Pipe.{PipeParts, packet_at, gone, comes_out, entered}
use Rattle.lucid_pipe.specs.Rows.{own, owns, by_array, steps_of, pipe_rows}
use Rattle.lucid_pipe_laws.specs.Moves.{goes, entered_by}
use Rattle.lucid_pipe_laws.specs.Rows.{whole}
use Rattle.lucid_pipe.specs.Settled.{settled, with_left, with_pass}

-- Each move keeps the settled state of a pipe, without a packet that leaves, which is the first of it; and an event that enters adds one
-- pass.
pub record MovesKeep (placed : PlacedParts) : Type 0 where
  pub go : (pipe : PipeParts) (k : ℕ) (p : Packet) → pipe.placed ≡ placed → length pipe.slots ≡ length placed.stages → packet_at pipe k ≡ Some p → packet_at pipe (k + 1) ≡ None →
      settled pipe ≡ with_left (comes_out pipe k p) (settled (gone pipe k p))
  pub enter : (pipe : PipeParts) (event : Event) (now me : ℕ) → pipe.placed ≡ placed → length pipe.slots ≡ length placed.stages → packet_at pipe 0 ≡ None →
      settled (entered pipe event now me) ≡ with_pass placed event now me (settled pipe)

-- For any list of moves of a pipe that was empty: its cells, once all packets in flight have run to their ends, are those after whole
-- passes of the events that entered, in their order, and the outs are those of these passes, packet by packet.
pub record MovesArePasses (placed : PlacedParts) : Type 0 where
  pub cells : (moves : List Move) → let f = after_moves placed moves in (settled f.pipe).cells ≡ f.passes.cells
  pub outs : (moves : List Move) → let f = after_moves placed moves in f.left ++ (settled f.pipe).outs ≡ f.passes.outs

-- A pipe moves as its rows do, and a whole pass through its rows is a pass through its stages.
pub record MovesAsRows (placed : PlacedParts) : Type 0 where
  pub go : (pipe : PipeParts) (k : ℕ) (p : Packet) → pipe.placed ≡ placed → length pipe.slots ≡ length placed.stages → packet_at pipe k ≡ Some p → packet_at pipe (k + 1) ≡ None →
      (pipe_rows (gone pipe k p) ≡ (goes (steps_of placed.code placed.stages) k (pipe_rows pipe)).0)
      × (comes_out pipe k p ≡ option_map told (goes (steps_of placed.code placed.stages) k (pipe_rows pipe)).1)
  pub enter : (pipe : PipeParts) (event : Event) (now me : ℕ) → pipe.placed ≡ placed → length pipe.slots ≡ length placed.stages →
      pipe_rows (entered pipe event now me) ≡ entered_by (Some (entering placed.code event now me)) (pipe_rows pipe)
  pub through : (cells : List (List ℕ)) (p : Packet) → let m = pass_from placed.code placed.stages (meets cells p) in
      whole (steps_of placed.code placed.stages) (owns placed.stages cells) p ≡ (owns placed.stages m.cells, left_by m p)
  -- the result of a look at an array of stage k
  pub look : (k : ℕ) (s : StageCode) (cells : List (List ℕ)) (g : ℕ) → slice_get placed.stages k ≡ Some s → is_in g s.arrays ≡ true → row_of (own s cells) g ≡ row_of cells g
  -- the cells by array are those by stage put together
  pub view : (cells : List (List ℕ)) → length cells ≡ length placed.code.arrays → ((g : ℕ) → stage_of placed.stages g ≡ None → row_of cells g ≡ row_of (zero_cells placed.code.arrays) g) →
      by_array placed.code.arrays placed.stages (owns placed.stages cells) ≡ cells
  -- an array that is in no stage is unchanged by a pass
  pub idle : (cells : List (List ℕ)) (p : Packet) (g : ℕ) → stage_of placed.stages g ≡ None →
      row_of (pass_from placed.code placed.stages (meets cells p)).cells g ≡ row_of cells g
  -- a pass of an event as it enters
  pub event : (cells : List (List ℕ)) (event : Event) (now me : ℕ) →
      let m = pass_from placed.code placed.stages (meets cells (entering placed.code event now me)) in
      let done = pass placed.code placed.stages cells now me event in
      (m.cells ≡ done.cells) × (sent_by m.outs ≡ done.outs)
