use Rattle.std.proofs.Common.{◌≡◌}
use Rattle.lucid_tests.proofs.networks.ticks_fly.Given as goal

abbrev pub invariant-loop-tick : goal.invariant-loop-tick
invariant-loop-tick l = l.net.scene ≡ l.scene
