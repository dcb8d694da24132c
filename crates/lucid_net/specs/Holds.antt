-- The content of a pipe of a network between two ticks, by the network whose events run whole.
use Rattle.std.specs.Prelude.{◌≡◌, ℕ, suc, ◌-◌, [], Some, map, option_map, slice_index_or}
use Rattle.lucid_base.specs.Cells.{row_of}
use Rattle.lucid_core.specs.Step.{Entry}
use Rattle.lucid_net_laws.specs.Runs.{entering}
use Rattle.lucid_net_spec.specs.Log.{ticks}
use Rattle.lucid_net_spec.specs.Ways.{Network, Run}
use Rattle.lucid_net_laws.specs.Rows.{cells_of, rows_in, step_of}
use Rattle.lucid_pipe.specs.Packets.{Packet}
use Rattle.lucid_pipe.specs.Pipe.{PipeParts}
use Rattle.lucid_pipe_laws.specs.Rows.{settled}
use Rattle.lucid_pipe_laws.specs.Sights.{pasts}
use Rattle.lucid_tables.specs.Placed.{PlacedParts, stage_of}

-- The event of a packet, of a run, and the tick and the switch at which it entered.
abbrev pub entry_of : Packet → Entry
entry_of p = record { now = p.now; me = p.me; event = p.event }

abbrev pub entry_by : Run → Entry
entry_by run = record { now = run.tick; me = run.switch; event = run.event }

-- After `at` ticks.
pub record Holds (net : Network) (placed : PlacedParts) (at switch : ℕ) (pipe : PipeParts) : Type 0 where
  -- in flight are the events that entered in as many of the last ticks as there are stages: in slot k the one that entered k + 1 ticks
  -- before
  pub flight : map (λ slot. option_map entry_of slot) pipe.slots ≡ pasts (λ tick. option_map entry_by (entering net switch tick)) at net.limits.stages
  -- once all that is in flight has run to its end, the cells are those of the switch now
  pub settles : cells_of placed (settled (step_of placed) (rows_in pipe)).0 ≡ slice_index_or (ticks net at).cells switch []
  -- the cells of an array in stage k are those of the switch k + 1 ticks before
  pub stages : (k array : ℕ) → stage_of placed.stages array ≡ Some k →
      row_of pipe.cells array ≡ row_of (slice_index_or (ticks net (at - suc k)).cells switch []) array
