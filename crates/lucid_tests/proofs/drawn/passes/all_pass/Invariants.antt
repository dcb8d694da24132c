use Rattle.std.proofs.Common.{◌≡◌}
use Rattle.lucid_tests.proofs.drawn.passes.all_pass.Given as goal

abbrev pub invariant-loop-passed : goal.invariant-loop-passed
invariant-loop-passed l = l.pipe.placed ≡ l.code
