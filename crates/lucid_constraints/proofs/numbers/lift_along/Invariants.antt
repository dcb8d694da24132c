use Rattle.std.proofs.Common.{◌≡◌, drop}
use Rattle.lucid_constraints.specs.Numbers.{lifted_along}
use Rattle.lucid_constraints.proofs.numbers.lift_along.Given as goal

abbrev pub invariant-loop-pair : goal.invariant-loop-pair
invariant-loop-pair l = lifted_along l.numbers (drop l.pair-index l.pairs) ≡ lifted_along l.fn.numbers l.pairs
