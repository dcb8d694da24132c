-- Stages with the effect of the events of a network.
use Rattle.std.specs.Prelude.{◌≡◌, ℕ, ◌<◌, List, Option}
use Rattle.std.specs.Option.{option_map}
use Rattle.lucid_base.specs.Cells.{zero_cells}
use Rattle.lucid_base.specs.declared.event.Event.{Event}
use Rattle.lucid_net_spec.specs.Ways.{Network, Run}
use Rattle.lucid_pipe_laws.specs.Rows.{Steps, whole}
use Rattle.lucid_net_laws.specs.Runs.{entering}

-- The effect of a stage, the cells of all stages at the start, and the cells of arrays in them; the packet of an event that enters a
-- switch at a tick, and its run once it has left.
pub record Stages (C P : Type 0) : Type 0 where
  pub step : Steps C P
  pub cells : List C
  pub view : List C → List (List ℕ)
  pub enters : ℕ → ℕ → Event → P
  pub done : P → Run

-- A pass through all stages has the effect of the event: from good cells, for events that fit, at the ticks and switches of the network.
pub record DoAs {C P : Type 0} (net : Network) (st : Stages C P) (Good : List C → Type 0) (Fits : Event → Type 0) : Type 0 where
  pub start : st.view st.cells ≡ zero_cells net.parts.arrays
  pub good : Good st.cells
  pub pass : (tick switch : ℕ) (cs : List C) (event : Event) → tick < net.scene.stop → switch < net.scene.switches → Good cs → Fits event →
      (let e = whole st.step cs (st.enters tick switch event) in let d = net.does (st.view cs) tick switch event in
      (st.view e.0 ≡ d.cells) × (st.done e.1 ≡ record { tick = tick; switch = switch; event = event; outs = d.outs }) × Good e.0)

-- The packet that enters the pipe of a switch at each tick.
abbrev pub packet_of : {C P : Type 0} → Stages C P → Run → P
packet_of st run = st.enters run.tick run.switch run.event

abbrev pub fed : {C P : Type 0} → Network → Stages C P → ℕ → ℕ → Option P
fed net st switch tick = option_map (packet_of st) (entering net switch tick)
