use Rattle.std.proofs.Common.{◌≡◌, true}
use Rattle.lucid_constraints.specs.Cover.{ParamsHeld}
use Rattle.lucid_constraints.proofs.cover.params_held.Given as goal

abbrev pub invariant-loop-n : goal.invariant-loop-n
invariant-loop-n l = l.all ≡ true → ParamsHeld l.places l.theirs l.from l.ours l.to l.n
