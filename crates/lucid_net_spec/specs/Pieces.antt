-- The text of a turn, and of a tick.
use Rattle.std.specs.Prelude.{ℕ, List, []}
pub use Rattle.lucid_log.specs.Pieces.{pieces}
use Rattle.lucid_net_spec.specs.Log.{State, ticks, turn, turns}
use Rattle.lucid_net_spec.specs.Ways.{Network}

-- The state with nothing written.
abbrev pub untold : State → State
untold now = record { cells = now.cells; pending = now.pending; text = []; entered = now.entered; lost = now.lost }

-- The text of the turn of a switch, among those of a tick that begin at this state.
abbrev pub turn_text : Network → ℕ → State → ℕ → List ℕ
turn_text net tick now switch = (turn net tick switch (untold (turns net tick switch now))).text

-- The text of a tick.
abbrev pub tick_text : Network → ℕ → List ℕ
tick_text net tick = (turns net tick net.scene.switches (untold (ticks net tick))).text
