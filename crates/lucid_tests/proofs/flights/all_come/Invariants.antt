use Rattle.std.proofs.Common.{◌≡◌}
use Rattle.lucid_tests.proofs.flights.all_come.Given as goal

abbrev pub invariant-loop-at : goal.invariant-loop-at
invariant-loop-at l = l.pipe.placed ≡ l.initial.pipe.placed
