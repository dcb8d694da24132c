-- How the queue keeps pending events: at each switch a list of keys and events, in the order of keys.
use Rattle.std.specs.Prelude.{ℕ, suc, List, [], ◌∷◌, ◌++◌, map, Option, None, Some, Bool, if◌then◌else◌, nat_lt, not}
use Rattle.std.specs.List.Sorted.{IsStrictlySortedBy}
use Rattle.std.specs.Map.{keys_of}
use Rattle.std.specs.Ordering.{is_eq}
use Rattle.lucid_base.specs.declared.event.Event.{Event}
use Rattle.lucid_queue.specs.Order.{key_cmp}
use Rattle.lucid_queue.specs.declared.pending.PendKey.{PendKey}
use Rattle.lucid_queue.specs.declared.pending.Pending.{Pending}

-- an entry of the queue of the switch
abbrev pub pending_at : ℕ → PendKey × Event → Pending
pending_at switch e = record { key = e.0; switch = switch; event = e.1 }

-- the queue of one switch
abbrev pub Entries : Type 0
Entries = List (PendKey × Event)

-- the queues of the switches from this one on
abbrev pub all_from : ℕ → List Entries → List Pending
all_from switch [] = []
all_from switch (es ∷ others) = map (pending_at switch) es ++ all_from (suc switch) others

abbrev pub IsByKey : Entries → Type 0
IsByKey es = IsStrictlySortedBy key_cmp (keys_of es)

abbrev pub has_key : PendKey → PendKey × Event → Bool
has_key key e = is_eq (key_cmp key e.0)

-- the first, if it may enter at the tick
abbrev pub front : ℕ → Entries → Option (PendKey × Event)
front tick [] = None
front tick (e ∷ es) = if not (nat_lt tick e.0.ready) then Some e else None

-- all others
abbrev pub behind_front : ℕ → Entries → Entries
behind_front tick [] = []
behind_front tick (e ∷ es) = if not (nat_lt tick e.0.ready) then es else e ∷ es
