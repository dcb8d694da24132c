use Rattle.std.proofs.Common.{◌≡◌, ◌++◌, drop}
use Rattle.lucid_refusals.specs.Readings.{reading_of}
use Rattle.lucid_refusals.proofs.readings.put_readings.Given as goal

-- what is left gives, with what was put, what the whole gives
abbrev pub invariant-loop-at : goal.invariant-loop-at
invariant-loop-at l = l.readings ++ reading_of (drop l.at l.p) (drop l.at l.q) ≡ l.fn.readings ++ reading_of l.p l.q
