-- Each event finds its place in the queue free, so no two in the queue have one switch and one key: in every network, for any effect of
-- its events.
use Rattle.std.specs.Prelude.{◌≡◌, ℕ, List, [], ◌∷◌, Some, false}
use Rattle.std.specs.List.{find, list_any}
use Rattle.lucid_net_spec.specs.Log.{file_events, made, run_at, ticks, turns}
use Rattle.lucid_net_spec.specs.Ways.{Network}
use Rattle.lucid_queue.specs.Order.{has_place, is_before}
use Rattle.lucid_queue.specs.Waiting.{is_ready, put_in, without_first}
use Rattle.lucid_queue.specs.declared.pending.Pending.{Pending}

-- They are queued one after another, and each finds its place free.
abbrev pub FindFree : List Pending → List Pending → Type 0
FindFree [] pending = Unit {0}
FindFree (p ∷ ps) pending = (list_any (has_place p) pending ≡ false) × FindFree ps (put_in is_before p pending)

abbrev pub AreApart : List Pending → Type 0
AreApart [] = Unit {0}
AreApart (p ∷ ps) = (list_any (has_place p) ps ≡ false) × AreApart ps

-- The events of the file, which wait first.
abbrev pub FileFindsFree : Network → Type 0
FileFindsFree net = FindFree (file_events 0 net.scene.events) []

-- The events that an event makes pending as it enters a switch at a tick.
abbrev pub MadeFindsFree : Network → Type 0
MadeFindsFree net = (tick switch : ℕ) (p : Pending) → (let now = turns net tick switch (ticks net tick) in
    find (is_ready switch tick) now.pending ≡ Some p → FindFree (made net (run_at net tick switch now p.event)) (without_first (is_ready switch tick) now.pending))

-- At each turn of each tick.
abbrev pub StaysApart : Network → Type 0
StaysApart net = (tick switch : ℕ) → AreApart (turns net tick switch (ticks net tick)).pending
