use Rattle.std.proofs.Common.{◌≡◌}
use Rattle.lucid_tests.proofs.drawn.pipes.fly.Given as goal

abbrev pub invariant-loop-turn : goal.invariant-loop-turn
invariant-loop-turn g l = l.pipe.placed ≡ l.code
