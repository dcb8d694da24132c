use Rattle.std.proofs.Common.{◌≡◌, ◌++◌, drop}
use Rattle.lucid_refusals.specs.Readings.{readings_of, same_lengths}
use Rattle.lucid_refusals.proofs.readings.read_as.Given as goal

-- what is left gives, with what was put, what the whole gives, and decides what the whole decides
abbrev pub invariant-loop-at : goal.invariant-loop-at
invariant-loop-at l =
    (l.readings ++ readings_of (drop l.at l.ps) (drop l.at l.qs) ≡ readings_of l.ps l.qs)
    × (same_lengths (drop l.at l.ps) (drop l.at l.qs) ≡ same_lengths l.ps l.qs)
