-- Serializability: packets move through one pipeline in any order, and the outcome is that of the handlers run whole, one after another.
use Rattle.std.specs.Prelude.{◌≡◌, ℕ, List, [], ◌∷◌, ◌++◌, Option, None, Some, All}
use Rattle.lucid_base.specs.declared.event.Event.{Event}
use Rattle.lucid_core.specs.Parts.{CoreParts}
use Rattle.lucid_core.specs.Step.{Entry, steps}
use Rattle.lucid_normal_spec.specs.Stands.{Happens}
use Rattle.lucid_pipe.specs.Moves.{Flight, Move, enter, go, after_moves, moved, no_moves}
use Rattle.lucid_pipe.specs.Packets.{Packet}
use Rattle.lucid_pipe.specs.Pipe.{PipeParts, packet_at}
use Rattle.lucid_pipe.specs.Settled.{settled}
use Rattle.lucid_tables.specs.Placed.{PlacedParts}

-- The event of an `enter`, which enters exactly if no packet is in slot 0.
abbrev pub entry_if : Option Packet → Event → ℕ → ℕ → List Entry
entry_if None event now me = record { now = now; me = me; event = event } ∷ []
entry_if (Some p) event now me = []

abbrev pub entry_by : PipeParts → Move → List Entry
entry_by pipe (enter event now me) = entry_if (packet_at pipe 0) event now me
entry_by pipe (go k) = []

-- The events that enter by these moves, in the order of entry.
abbrev pub entries_from : Flight → List Move → List Entry
entries_from f [] = []
entries_from f (m ∷ moves) = entry_by f.pipe m ++ entries_from (moved f m) moves

-- Those of moves from an empty pipe on.
abbrev pub entries : PlacedParts → List Move → List Entry
entries placed moves = entries_from (no_moves placed) moves

-- For every list of moves of an empty pipeline whose entering events fit the program: the cells, once the packets in flight have run to
-- their ends, are those after the entered events ran whole, in the order of entry; and the outs of the packets that left, followed by those
-- of the packets in flight, the oldest first, are the outs of these runs.
pub record MovesRunWhole (placed : PlacedParts) (core : CoreParts) : Type 0 where
  pub cells : (moves : List Move) → All (λ e. Happens core e.me e.event) (entries placed moves) →
      (settled (after_moves placed moves).pipe).cells ≡ (steps core (entries placed moves)).cells
  pub outs : (moves : List Move) → All (λ e. Happens core e.me e.event) (entries placed moves) →
      (after_moves placed moves).left ++ (settled (after_moves placed moves).pipe).outs ≡ (steps core (entries placed moves)).outs
