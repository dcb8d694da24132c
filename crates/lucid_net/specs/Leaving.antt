-- The packet that leaves a pipe as its packets move, and the queue after it.
use Rattle.std.specs.Prelude.{◌≡◌, ◌+◌, List, Option, None, IsTrue, true, All}
use Rattle.std.specs.List.{list_all}
use Rattle.std.specs.Option.{option_map}
use Rattle.lucid_core.specs.Fits.{event_fits, out_fits}
use Rattle.lucid_core.specs.Parts.{CoreParts}
use Rattle.lucid_net_laws.specs.Runs.{made_by}
use Rattle.lucid_net_spec.specs.Log.{put_all}
use Rattle.lucid_net_spec.specs.Ways.{Network, Run}
use Rattle.lucid_net_laws.specs.Rows.{Rows, step_of}
use Rattle.lucid_net_laws.specs.PipeStages.{run_of_packet, run_of_passed}
use Rattle.lucid_pipe.specs.declared.passed.Passed.{Passed}
use Rattle.lucid_pipe_laws.specs.Moves.{advance}
use Rattle.lucid_queue.specs.declared.pending.Pending.{Pending}
use Rattle.lucid_tables.specs.Placed.{PlacedParts}
use Rattle.lucid_net.specs.Kept.{is_kept}

abbrev pub gone_run : Option Passed → Option Run
gone_run gone = option_map run_of_passed gone

-- The run of the packet that leaves these rows as all packets move; and the queue after it.
abbrev pub left : PlacedParts → Rows → Option Run
left placed rows = option_map run_of_packet (advance (step_of placed) None rows).1

abbrev pub waits : Network → PlacedParts → Rows → List Pending → List Pending
waits net placed rows queue = put_all (made_by net (left placed rows)) queue

-- The run is of an event that fits, and so is all that it sends out.
pub record Fits (parts : CoreParts) (run : Run) : Type 0 where
  pub event : IsTrue (event_fits parts run.event)
  pub outs : All (λ out. IsTrue (out_fits parts out)) run.outs

abbrev pub KeptBefore : CoreParts → Run → List Pending → Type 0
KeptBefore parts run queue = list_all (is_kept parts run.tick run.switch 0) queue ≡ true

abbrev pub KeptAfter : CoreParts → Run → List Pending → Type 0
KeptAfter parts run queue = list_all (is_kept parts run.tick (run.switch + 1) 0) queue ≡ true
