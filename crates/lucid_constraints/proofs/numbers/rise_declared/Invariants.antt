use Rattle.std.proofs.Common.{◌≡◌}
use Rattle.lucid_constraints.specs.Numbers.{rise_to}
use Rattle.lucid_constraints.proofs.numbers.rise_declared.Given as goal

abbrev pub invariant-loop-a : goal.invariant-loop-a
invariant-loop-a l = l.all ≡ rise_to l.numbers l.a
