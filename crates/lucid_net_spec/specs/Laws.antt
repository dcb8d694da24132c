-- The queue is always in order, so the event that enters has the least key of the ready ones; and turns by their numbers.
use Rattle.std.specs.Prelude.{◌≡◌, ℕ, zero, suc, ◌+◌, ◌*◌, ◌/◌, ◌%◌, ◌≤◌, List, [], ◌∷◌, Some, true, false}
use Rattle.std.specs.List.{All, AllByRecursion, find}
use Rattle.std.specs.Ordering.{is_lt}
use Rattle.lucid_net_spec.specs.Log.{State, start, ticks, turn, turns}
use Rattle.lucid_net_spec.specs.Ways.{Network}
use Rattle.lucid_queue.specs.Order.{is_before, key_cmp}
use Rattle.lucid_queue.specs.Waiting.{is_ready}
use Rattle.lucid_queue.specs.declared.pending.Pending.{Pending}

-- No event precedes one with a smaller key.
abbrev pub IsInOrder : List Pending → Type 0
IsInOrder [] = Unit {0}
IsInOrder (p ∷ ps) = AllByRecursion (λ q. is_before q p ≡ false) ps × IsInOrder ps

-- At each turn of each tick.
abbrev pub StaysInOrder : Network → Type 0
StaysInOrder net = (tick switch : ℕ) → IsInOrder (turns net tick switch (ticks net tick)).pending

-- Of all that are ready, none has a lesser key than the one that enters.
abbrev pub EntersLeast : Network → Type 0
EntersLeast net = (tick switch : ℕ) (p : Pending) → (let pending = (turns net tick switch (ticks net tick)).pending in
    find (is_ready switch tick) pending ≡ Some p → All (λ q. is_ready switch tick q ≡ true → is_lt (key_cmp q.key p.key) ≡ false) pending)

-- The same network by the number of the turn: turn i is that of switch i % switches at tick i / switches.
abbrev pub nth : Network → ℕ → State
nth net zero = start net
nth net (suc i) = turn net (i / net.scene.switches) (i % net.scene.switches) (nth net i)

abbrev pub TurnsByNumber : Network → Type 0
TurnsByNumber net = (tick switch : ℕ) → switch ≤ net.scene.switches → nth net (tick * net.scene.switches + switch) ≡ turns net tick switch (ticks net tick)
