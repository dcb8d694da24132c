-- A network whose switches have pipelines, all of whose packets move once a tick.
use Rattle.std.specs.Prelude.{◌≡◌, ℕ, ◌+◌, ◌-◌, ◌*◌, ◌^◌, ◌<◌, ◌≤◌, List, [], Option, None, Some, length, slice_index_or, slice_set}
use Rattle.std.specs.List.{find}
use Rattle.std.specs.Option.{option_map}
use Rattle.lucid_base.specs.declared.event.Event.{Event}
use Rattle.lucid_net_spec.specs.Laws.{nth}
use Rattle.lucid_net_spec.specs.Log.{put_all}
use Rattle.lucid_net_spec.specs.Ways.{Network}
use Rattle.lucid_pipe_laws.specs.Moves.{advance, entered_by}
use Rattle.lucid_pipe_laws.specs.Rows.{Row}
use Rattle.lucid_pipe_laws.specs.Stream.{picture}
use Rattle.lucid_queue.specs.Waiting.{is_ready, without_first}
use Rattle.lucid_queue.specs.declared.pending.Pending.{Pending}
use Rattle.lucid_net_laws.specs.Behind.{IsBehindBy, LinksTakeTime}
use Rattle.lucid_net_laws.specs.Entering.{AllFit}
use Rattle.lucid_net_laws.specs.Runs.{losses_by, made_by}
use Rattle.lucid_net_laws.specs.Stages.{DoAs, Stages, fed}
use Rattle.lucid_net_laws.specs.Whole.{clock}

-- The pipeline of each switch, the queue, and the numbers of events that entered and were lost.
pub record Flying (C P : Type 0) : Type 0 where
  pub pipes : List (List (Row C P))
  pub pending : List Pending
  pub entered : ℕ
  pub lost : ℕ

abbrev pub one_if : {A : Type 0} → Option A → ℕ
one_if None = 0
one_if (Some x) = 1

-- The packet of a queued event.
abbrev pub packet_for : {C P : Type 0} → Stages C P → ℕ → ℕ → Option Pending → Option P
packet_for st tick switch o = option_map (λ p. st.enters tick switch p.event) o

-- The turn of a switch: its packets move, the packet that leaves makes events pending, and then one may enter.
abbrev pub flying_turn : {C P : Type 0} → Network → Stages C P → ℕ → ℕ → Flying C P → Flying C P
flying_turn net st tick switch now =
    let gone = advance st.step None (slice_index_or now.pipes switch []) in
    let run = option_map st.done gone.1 in
    let pending = put_all (made_by net run) now.pending in
    let first = find (is_ready switch tick) pending in
    record {
      pipes = slice_set now.pipes switch (entered_by (packet_for st tick switch first) gone.0);
      pending = without_first (is_ready switch tick) pending;
      entered = now.entered + one_if first;
      lost = now.lost + losses_by net run;
    }

-- Before the turn of a switch at a tick each pipeline is the picture of the events that entered its switch in the network whose events
-- run whole, and the queue lacks exactly the events still to be sent by packets in flight.
pub record IsFlying {C P : Type 0} (net : Network) (st : Stages C P) (tick switch : ℕ) (now : Flying C P) : Type 0 where
  pub long : length now.pipes ≡ net.scene.switches
  pub pipes : (u : ℕ) → u < net.scene.switches → slice_index_or now.pipes u [] ≡ picture st.step st.cells (fed net st u) (clock tick switch u)
  pub behind : IsBehindBy net (net.limits.stages * net.scene.switches) (tick * net.scene.switches + switch) now.pending
  pub entered : now.entered ≡ (nth net (tick * net.scene.switches + switch)).entered
  pub lost : now.lost ≡ (nth net (tick * net.scene.switches + switch - net.limits.stages * net.scene.switches)).lost

-- The inputs of the network.
pub record IsSound {C P : Type 0} (net : Network) (st : Stages C P) (Good : List C → Type 0) (Fits : Event → Type 0) : Type 0 where
  pub some : 0 < net.limits.stages
  pub long : length st.cells ≡ net.limits.stages
  pub short : net.scene.stop ≤ 2 ^ 64 - 1
  pub links : LinksTakeTime net
  pub does : DoAs net st Good Fits
  pub fit : AllFit net Fits
