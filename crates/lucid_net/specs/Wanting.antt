-- When a network with pipes may run out of memory: only at a tick at which a packet leaves whose event sent out one that waits.
use Rattle.std.specs.Prelude.{◌≡◌, ◌≢◌, ℕ, ◌+◌, ◌-◌, ◌<◌, List, [], ◌++◌, Option}
use Rattle.lucid_io.specs.Puts.{Leaves}
use Rattle.lucid_net_laws.specs.Runs.{leaving, made_by}
use Rattle.lucid_net_spec.specs.Log.{log, ticks}
use Rattle.lucid_net_spec.specs.Ways.{Network}

-- An event that entered some switch this many ticks before made a queued event.
abbrev pub SomeMade : Network → ℕ → Type 0
SomeMade net tick = (switch : ℕ) × (switch < net.scene.switches) × (made_by net (leaving net net.limits.stages switch tick) ≢ [])

-- The run ran out of memory at a tick, and this text was written: all that the ticks before it write, and a part of what it writes itself. A
-- tick writes the blocks of the events that entered as many ticks before as there are stages.
pub record StopsAt (net : Network) (text : List ℕ) : Type 0 where
  pub tick : ℕ
  pub within : tick < net.scene.stop
  pub made : SomeMade net tick
  pub part : List ℕ
  pub rest : List ℕ
  pub before : text ≡ (ticks net (tick - net.limits.stages)).text ++ part
  pub cut : (ticks net (tick + 1 - net.limits.stages)).text ≡ text ++ rest

-- The output of a run that ran out of memory: such a text, which is a prefix of its log.
abbrev pub Stopped : {T : Type 0} → (T → Option (List ℕ)) → (T → ℕ) → T → T → Network → Type 0
Stopped written faults old new net = (rest : List ℕ) × (left : Leaves written faults old new (log net) rest) × StopsAt net left.before
