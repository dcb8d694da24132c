-- The queue of a network whose packets are in flight for some turns, by the number of the turn.
use Rattle.std.specs.Prelude.{◌≡◌, ◌≢◌, ℕ, zero, suc, min, ◌+◌, ◌-◌, ◌*◌, ◌/◌, ◌%◌, ◌^◌, ◌<◌, ◌≤◌, List, [], ◌++◌, Option, false}
use Rattle.std.specs.List.{AllByRecursion, find}
use Rattle.lucid_conf.specs.declared.scene.Link.{Link}
use Rattle.lucid_net_spec.specs.Laws.{IsInOrder, nth}
use Rattle.lucid_net_spec.specs.Log.{put_all, ticks, turns}
use Rattle.lucid_net_spec.specs.Ways.{Network, Run}
use Rattle.lucid_pipe_laws.specs.Stream.{late}
use Rattle.lucid_queue.specs.Waiting.{is_ready, without_first}
use Rattle.lucid_queue.specs.declared.pending.Pending.{Pending}
use Rattle.lucid_net_laws.specs.Runs.{losses_by, made_by, run_of, runs}

-- The run at turn i, and the events made by `count` turns from this number on.
abbrev pub nth_run : Network → ℕ → Option Run
nth_run net i = run_of net (i / net.scene.switches) (i % net.scene.switches) (nth net i)

abbrev pub mades : Network → ℕ → ℕ → List Pending
mades net from zero = []
mades net from (suc count) = made_by net (nth_run net from) ++ mades net (suc from) count

-- Before turn i, if the last `count` turns before it are in flight: the queue lacks exactly the events that these make.
pub record IsBehind (net : Network) (out count i : ℕ) (waits : List Pending) : Type 0 where
  pub turns : out + count ≡ i
  pub pending : put_all (mades net out count) waits ≡ (nth net i).pending
  pub ordered : IsInOrder waits

-- All but the last `lag` turns are written.
abbrev pub IsBehindBy : Network → ℕ → ℕ → List Pending → Type 0
IsBehindBy net lag i pending = IsBehind net (i - lag) (i - (i - lag)) i pending

-- Each link takes time.
abbrev pub LinksTakeTime : Network → Type 0
LinksTakeTime net = AllByRecursion (λ l. 1 ≤ l.latency) net.scene.links

-- The effect of a turn if packets take `stages` ticks, one at least: the events of the packet that entered that long before become
-- pending, and then the same event enters as in the network whose events run whole.
pub record TurnBehind (net : Network) (tick switch : ℕ) (pending : List Pending) : Type 0 where
  pub enters : find (is_ready switch tick) pending ≡ find (is_ready switch tick) (turns net tick switch (ticks net tick)).pending
  pub behind : IsBehindBy net (net.limits.stages * net.scene.switches) (suc (tick * net.scene.switches + switch)) (without_first (is_ready switch tick) pending)
  pub lost : (nth net (suc (tick * net.scene.switches + switch) - net.limits.stages * net.scene.switches)).lost
      ≡ (nth net (tick * net.scene.switches + switch - net.limits.stages * net.scene.switches)).lost + losses_by net (late (runs net switch) tick net.limits.stages)

abbrev pub StaysBehind : Network → Type 0
StaysBehind net = (tick switch : ℕ) (pending : List Pending) → 0 < net.limits.stages → switch < net.scene.switches → tick < 2 ^ 64 - 1 → LinksTakeTime net →
    IsBehindBy net (net.limits.stages * net.scene.switches) (tick * net.scene.switches + switch) pending →
    TurnBehind net tick switch (put_all (made_by net (late (runs net switch) tick net.limits.stages)) pending)
