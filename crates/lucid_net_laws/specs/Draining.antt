-- The end of such a network: once the last tick is done nothing enters, and packets in flight finish.
use Rattle.std.specs.Prelude.{◌≡◌, ℕ, ◌+◌, ◌-◌, ◌*◌, ◌<◌, [], None, length, slice_index_or, slice_set}
use Rattle.std.specs.Option.{option_map}
use Rattle.lucid_net_spec.specs.Laws.{nth}
use Rattle.lucid_net_spec.specs.Log.{ticks}
use Rattle.lucid_net_spec.specs.Ways.{Network}
use Rattle.lucid_pipe_laws.specs.Moves.{advance}
use Rattle.lucid_pipe_laws.specs.Stream.{picture}
use Rattle.lucid_net_laws.specs.Behind.{mades}
use Rattle.lucid_net_laws.specs.Flying.{Flying}
use Rattle.lucid_net_laws.specs.Runs.{losses_by, made_by}
use Rattle.lucid_net_laws.specs.Stages.{Stages, fed}
use Rattle.lucid_net_laws.specs.Whole.{clock}

-- The turn of a switch after the last tick: nothing enters, and the events that would become pending are counted.
abbrev pub draining_turn : {C P : Type 0} → Network → Stages C P → ℕ → Flying C P → Flying C P
draining_turn net st switch now =
    let gone = advance st.step None (slice_index_or now.pipes switch []) in
    record { pipes = slice_set now.pipes switch gone.0; pending = now.pending; entered = now.entered; lost = now.lost + losses_by net (option_map st.done gone.1) }

abbrev pub draining_count : {C P : Type 0} → Network → Stages C P → ℕ → Flying C P → ℕ
draining_count net st switch now = length (made_by net (option_map st.done (advance st.step None (slice_index_or now.pipes switch [])).1))

pub record IsDraining {C P : Type 0} (net : Network) (st : Stages C P) (tick switch : ℕ) (now : Flying C P) (waiting : ℕ) : Type 0 where
  pub long : length now.pipes ≡ net.scene.switches
  pub pipes : (u : ℕ) → u < net.scene.switches → slice_index_or now.pipes u [] ≡ picture st.step st.cells (fed net st u) (clock tick switch u)
  pub lost : now.lost ≡ (nth net (tick * net.scene.switches + switch - net.limits.stages * net.scene.switches)).lost
  pub counted : (let written = tick * net.scene.switches + switch - net.limits.stages * net.scene.switches in
      waiting + length (mades net written (net.scene.stop * net.scene.switches - written)) ≡ length (ticks net net.scene.stop).pending)
