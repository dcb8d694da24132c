-- The model of switches with pipes.
use Rattle.std.specs.Prelude.{◌≡◌, ℕ, ◌-◌, ◌*◌, ◌^◌, ◌<◌, ◌≤◌, List, true, if◌then◌else◌, length, map, nat_lt}
use Rattle.std.specs.List.{AllByRecursion, list_all}
use Rattle.lucid_base.specs.declared.event.Event.{Event}
use Rattle.lucid_code.specs.Inputs.{IsInput}
use Rattle.lucid_net_laws.specs.Draining.{IsDraining}
use Rattle.lucid_net_laws.specs.Few.{SendsFew}
use Rattle.lucid_net_laws.specs.Fitting.{FileFits, SendsFit, fits}
use Rattle.lucid_net_laws.specs.Flying.{Flying, IsFlying, IsSound}
use Rattle.lucid_net_spec.specs.Log.{ticks}
use Rattle.lucid_net_spec.specs.Ways.{Network}
use Rattle.lucid_net_laws.specs.Does.{IsGood}
use Rattle.lucid_net_laws.specs.Rows.{Cells, rows_in}
use Rattle.lucid_net_laws.specs.PipeStages.{stages_of}
use Rattle.lucid_pipe.specs.Packets.{Packet}
use Rattle.lucid_pipe.specs.Pipe.{PipeParts}
use Rattle.lucid_queue.specs.declared.pending.Pending.{Pending}
use Rattle.lucid_tables.specs.Placed.{PlacedParts}
use Rattle.lucid_net.specs.Kept.{is_kept}
use Rattle.lucid_net.specs.Rows.{IsOf}
use Rattle.lucid_net.specs.declared.pipes.Pipes.{Pipes}

-- The pipes, the queue, and the numbers of events that entered and were lost.
pub record Piped : Type 0 where
  pub pipes : List PipeParts
  pub pending : List Pending
  pub entered : ℕ
  pub lost : ℕ

abbrev pub piped_of : Pipes → Piped
piped_of now = record { pipes = now.pipes.items; pending = now.queue; entered = now.counts.entered; lost = now.counts.lost }

abbrev pub flying_of : Piped → Flying Cells Packet
flying_of now = record { pipes = map rows_in now.pipes; pending = now.pending; entered = now.entered; lost = now.lost }

-- The inputs of a network whose switches have pipes of this placed code.
pub record IsReady (net : Network) (placed : PlacedParts) : Type 0 where
  pub sound : IsSound net (stages_of placed) (IsGood placed net.parts) (fits net.parts)
  pub file : FileFits net
  pub sends : SendsFit net
  pub few : SendsFew net
  pub takes : (switch : ℕ) (event : Event) → switch < 2 ^ 32 → fits net.parts event → IsInput placed.code switch event
  pub switches : net.scene.switches ≤ 64
  pub ticks : net.scene.stop * net.scene.switches ≤ 131072
  pub events : length net.scene.events ≤ 2 ^ 32
  pub short : net.scene.stop ≤ 131072
  pub stages : net.limits.stages ≤ 32

abbrev pub kept_from : ℕ → ℕ → ℕ → ℕ
kept_from stages tick switch = if nat_lt tick stages then 0 else switch

-- Before the turn of a switch at a tick.
pub record IsPiped (net : Network) (placed : PlacedParts) (tick switch : ℕ) (now : Piped) : Type 0 where
  pub flying : IsFlying net (stages_of placed) tick switch (flying_of now)
  pub same : AllByRecursion (IsOf placed) now.pipes
  pub kept : list_all (is_kept net.parts (tick - net.limits.stages) (kept_from net.limits.stages tick switch) 0) now.pending ≡ true

-- Once the last tick is done.
pub record IsDrained (net : Network) (placed : PlacedParts) (tick switch : ℕ) (now : Piped) (waiting : ℕ) : Type 0 where
  pub draining : IsDraining net (stages_of placed) tick switch (flying_of now) waiting
  pub same : AllByRecursion (IsOf placed) now.pipes
  pub entered : now.entered ≡ (ticks net net.scene.stop).entered
