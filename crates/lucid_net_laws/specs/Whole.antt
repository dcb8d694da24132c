-- The cells of each switch, by the events that entered it.
use Rattle.std.specs.Prelude.{◌≡◌, ℕ, suc, ◌<◌, List, [], if◌then◌else◌, length, nat_lt, slice_index_or}
use Rattle.lucid_net_spec.specs.Log.{ticks, turns}
use Rattle.lucid_net_spec.specs.Ways.{Network}
use Rattle.lucid_pipe_laws.specs.Stream.{cells_at}
use Rattle.lucid_net_laws.specs.Stages.{Stages, fed}

-- How many ticks switch u has done before the turn of switch s at tick t.
abbrev pub clock : ℕ → ℕ → ℕ → ℕ
clock t s u = if nat_lt u s then suc t else t

-- Before the turn of a switch at a tick the cells of each switch are those after one pass of each of its events.
pub record IsWhole {C P : Type 0} (net : Network) (st : Stages C P) (Good : List C → Type 0) (tick switch : ℕ) : Type 0 where
  pub long : length (turns net tick switch (ticks net tick)).cells ≡ net.scene.switches
  pub cells : (u : ℕ) → u < net.scene.switches →
      slice_index_or (turns net tick switch (ticks net tick)).cells u [] ≡ st.view (cells_at st.step st.cells (fed net st u) (clock tick switch u))
  pub good : (u : ℕ) → u < net.scene.switches → Good (cells_at st.step st.cells (fed net st u) (clock tick switch u))
