use Rattle.std.proofs.Common.{◌≡◌, ◌++◌, drop}
use Rattle.lucid_refusals.specs.Readings.{others_of}
use Rattle.lucid_refusals.proofs.readings.others_of.Given as goal

-- what is left gives, with what was put, what the whole gives
abbrev pub invariant-loop-x : goal.invariant-loop-x
invariant-loop-x l = l.others ++ others_of l.literals (drop l.x-index l.readings) ≡ others_of l.literals l.readings
