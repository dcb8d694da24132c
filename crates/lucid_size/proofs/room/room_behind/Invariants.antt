use Rattle.std.proofs.Common.{◌≡◌, ◌+◌, drop}
use Rattle.lucid_size.specs.Bytes.{steps_len}
use Rattle.lucid_size.proofs.room.room_behind.Given as goal

-- the room so far is what is left of it behind the steps so far
abbrev pub invariant-loop-step : goal.invariant-loop-step
invariant-loop-step l = l.room + steps_len l.underscores l.width l.steps ≡ l.fn.room + steps_len l.underscores l.width (drop l.step-index l.steps)
