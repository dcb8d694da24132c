use Rattle.std.proofs.Common.{◌≡◌, take}
use Rattle.lucid_inline.proofs.program.copy_events.Given as goal

-- the visited items are copied
abbrev pub invariant-loop-event : goal.invariant-loop-event
invariant-loop-event l = l.copies.items ≡ take l.event-index l.events
