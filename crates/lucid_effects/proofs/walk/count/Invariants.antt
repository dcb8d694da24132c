use Rattle.std.proofs.Common.{◌≡◌, ◌+◌}
use Rattle.lucid_effects.proofs.walk.count.Given as goal

abbrev pub invariant-loop-pair : goal.invariant-loop-pair
invariant-loop-pair g l = l.steps ≡ l.fn.steps + l._pair-index
