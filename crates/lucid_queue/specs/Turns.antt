-- Where the events of a switch are: the map has the slot of each key's event.
use Rattle.std.specs.Prelude.{◌≢◌, ℕ, List, [], ◌∷◌, IsSome, ⊤, map}
use Rattle.std.specs.List.{AllByRecursion}
use Rattle.std.specs.Option.{unwrap_or}
use Rattle.slab.specs.Slab.{Slab, get}
use Rattle.lucid_base.specs.declared.event.Event.{Event}
use Rattle.lucid_queue.specs.declared.pending.PendKey.{PendKey}

-- The event in this slot.
abbrev pub event_in : Slab Event → ℕ → Event
event_in events slot = unwrap_or (get events slot) (record { id = 0; args = [] })

-- The key with its event.
abbrev pub with_event : Slab Event → PendKey × ℕ → PendKey × Event
with_event events e = (e.0, event_in events e.1)

abbrev pub with_events : Slab Event → List (PendKey × ℕ) → List (PendKey × Event)
with_events events es = map (with_event events) es

-- None of these has the slot.
abbrev pub HaveNot : ℕ → List (PendKey × ℕ) → Type 0
HaveNot slot es = AllByRecursion (λ e. e.1 ≢ slot) es

-- Each key has a slot of its own, with an event.
abbrev pub AreKept : Slab Event → List (PendKey × ℕ) → Type 0
AreKept events [] = ⊤
AreKept events (e ∷ es) = IsSome (get events e.1) × HaveNot e.1 es × AreKept events es
