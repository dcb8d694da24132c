-- Lists of moves, in any order, and the whole passes with the same effect.
use Rattle.std.specs.Prelude.{ℕ, ◌+◌, List, [], ◌∷◌, ◌++◌, Option, None, Some}
use Rattle.std.specs.List.{fold}
use Rattle.lucid_base.specs.Cells.{zero_cells}
use Rattle.lucid_base.specs.declared.event.Event.{Event}
use Rattle.lucid_base.specs.declared.event.Out.{Out}
use Rattle.lucid_tables.specs.Placed.{PlacedParts}
use Rattle.lucid_pipe.specs.Packets.{Packet}
use Rattle.lucid_pipe.specs.Pipe.{PipeParts, empty_pipe, packet_at, gone, comes_out, entered}
use Rattle.lucid_pipe.specs.Settled.{Settled, with_pass}
use Rattle.lucid_pipe.specs.declared.passed.Passed.{Passed}

-- An event enters at a tick and a switch, or the packet in a slot goes on.
pub data Move : Type 0 where
  enter : Event → ℕ → ℕ → Move
  go : ℕ → Move

-- The state after some moves: the pipe; the outs of the packets that left, in the order in which they left; and the result of whole
-- passes of the events that entered, one after another.
pub record Flight : Type 0 where
  pub pipe : PipeParts
  pub left : List (List Out)
  pub passes : Settled

abbrev pub no_moves : PlacedParts → Flight
no_moves placed = record { pipe = empty_pipe placed; left = []; passes = record { cells = zero_cells placed.code.arrays; outs = [] } }

-- the outs of the packet that left, if one did
abbrev pub outs_left : Option Passed → List (List Out)
outs_left None = []
outs_left (Some passed) = passed.outs ∷ []

-- an event enters where no packet is in the first slot, and else nothing happens
abbrev pub enters : Flight → Event → ℕ → ℕ → Option Packet → Flight
enters f event now me (Some p) = f
enters f event now me None = record f { pipe = entered f.pipe event now me; passes = with_pass f.pipe.placed event now me f.passes }

-- the packet in a slot, if there is one, goes on where none is in the next slot, and else nothing happens
abbrev pub goes_on : Flight → ℕ → Option Packet → Option Packet → Flight
goes_on f k None next = f
goes_on f k (Some p) (Some q) = f
goes_on f k (Some p) None = record f { pipe = gone f.pipe k p; left = f.left ++ outs_left (comes_out f.pipe k p) }

abbrev pub moved : Flight → Move → Flight
moved f (enter event now me) = enters f event now me (packet_at f.pipe 0)
moved f (go k) = goes_on f k (packet_at f.pipe k) (packet_at f.pipe (k + 1))

-- the moves of this list, one after another
abbrev pub after_moves : PlacedParts → List Move → Flight
after_moves placed moves = fold moved (no_moves placed) moves
