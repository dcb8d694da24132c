-- The steps that are left go behind, the last first.
use Rattle.std.proofs.Common.{◌≡◌, ◌++◌, length, reverse}
use Rattle.lucid_types_statements.proofs.assembly.add.Given as goal

abbrev pub invariant-steps : goal.invariant-steps
invariant-steps l = l.behind.items ++ reverse l.steps ≡ l.fn.behind.items ++ reverse l.fn.steps

abbrev pub decreases-steps : goal.decreases-steps
decreases-steps l = length l.steps
