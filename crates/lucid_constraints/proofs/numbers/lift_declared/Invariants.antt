use Rattle.std.proofs.Common.{◌≡◌}
use Rattle.lucid_constraints.specs.Numbers.{lifted_to}
use Rattle.lucid_constraints.proofs.numbers.lift_declared.Given as goal

abbrev pub invariant-loop-a : goal.invariant-loop-a
invariant-loop-a l = l.numbers ≡ lifted_to l.a l.fn.numbers
