use Rattle.lucid_pass_rewrites.specs.Covering.{Nested}
use Rattle.lucid_pass_rewrites.proofs.covering.nested_from.Given as goal

abbrev pub invariant-loop-at : goal.invariant-loop-at
invariant-loop-at l = Nested l.ops l.guard l.at
