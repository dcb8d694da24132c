use Rattle.std.proofs.Common.{◌≡◌, drop}
use Rattle.lucid_constraints.specs.Means.{allow_all}
use Rattle.lucid_constraints.specs.Numbers.{number_of}
use Rattle.lucid_constraints.proofs.numbers.rise_along.Given as goal

abbrev pub invariant-loop-pair : goal.invariant-loop-pair
invariant-loop-pair l = allow_all (number_of l.numbers) 0 (drop l.pair-index l.pairs) ≡ allow_all (number_of l.numbers) 0 l.pairs
