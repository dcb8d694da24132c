use Rattle.std.proofs.Common.{◌≡◌}
use Rattle.lucid_tests.proofs.drawn.whole.leave.Given as goal

abbrev pub invariant-loop-k : goal.invariant-loop-k
invariant-loop-k l = l.pipe.placed ≡ l.fn.pipe.placed
