use Rattle.std.proofs.Common.{◌≡◌, take}
use Rattle.lucid_refusals.proofs.shape.same_pattern.Given as goal

abbrev pub invariant-loop-at : goal.invariant-loop-at
invariant-loop-at l = take l.at l.p ≡ take l.at l.q
