-- Queued events by the time they were queued, so that no two have one place.
use Rattle.std.specs.Prelude.{◌≡◌, ℕ, Bool, true, ◌&&◌, ◌||◌, not, nat_eq, nat_lt}
use Rattle.lucid_base.specs.declared.event.Event.{Event}
use Rattle.lucid_queue.specs.declared.pending.PendKey.{PendKey}
use Rattle.lucid_queue.specs.declared.pending.Pending.{Pending}

-- Of the file, or made before out number `index` of the event that enters the switch at the tick.
abbrev pub is_older : ℕ → ℕ → ℕ → PendKey → Bool
is_older tick switch index k =
    not k.made || (nat_lt k.tick tick || (nat_eq k.tick tick && (nat_lt k.parent switch || (nat_eq k.parent switch && nat_lt k.index index))))

-- It is out number `index` of the event that entered the switch at the tick, and sends this event.
pub record IsNew (at switch place : ℕ) (sent : Event) (p : Pending) : Type 0 where
  pub made : p.key.made ≡ true
  pub tick : p.key.tick ≡ at
  pub parent : p.key.parent ≡ switch
  pub index : p.key.index ≡ place
  pub event : p.event ≡ sent
