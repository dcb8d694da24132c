use Rattle.std.proofs.Common.{◌≡◌}
use Rattle.lucid_layout.proofs.filling.bare_stages.Given as goal

abbrev pub invariant-loop-one : goal.invariant-loop-one
invariant-loop-one l = l.stages.items ≡ l.yielded
