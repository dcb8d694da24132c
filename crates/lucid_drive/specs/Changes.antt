-- The effect of a call of a drive on its pipe.
use Rattle.std.specs.Prelude.{◌≡◌, ℕ, ◌+◌, ◌<◌, Option, None, Some, ◌⊎◌, length}
use Rattle.lucid_base.specs.declared.event.Event.{Event}
use Rattle.lucid_pipe.specs.Packets.{Packet}
use Rattle.lucid_pipe.specs.Pipe.{PipeParts, entered, gone, packet_at}

-- The packet in slot k passed stage k.
pub record Moved (before : PipeParts) (k : ℕ) (p : Packet) (after : PipeParts) : Type 0 where
  pub here : packet_at before k ≡ Some p
  pub next : packet_at before (k + 1) ≡ None
  pub is : after ≡ gone before k p

-- An event entered.
pub record Came (before after : PipeParts) : Type 0 where
  pub event : Event
  pub tick : ℕ
  pub me : ℕ
  pub some : 0 < length before.slots
  pub free : packet_at before 0 ≡ None
  pub is : after ≡ entered before event tick me

-- The packet in this slot moved; or none did: then an event entered, or the pipe is as it was.
abbrev pub Changes : PipeParts → Option ℕ → PipeParts → Type 0
Changes before (Some k) after = (p : Packet) × Moved before k p after
Changes before None after = (after ≡ before) ⊎ Came before after
