use Rattle.std.proofs.Common.{drop}
use Rattle.lucid_constraints.specs.Cover.{StartsHeld}
use Rattle.lucid_constraints.proofs.cover.start_held.Given as goal

abbrev pub invariant-loop-atom : goal.invariant-loop-atom
invariant-loop-atom l = StartsHeld l.places l.theirs l.ours (drop l.atom-index l.start) → StartsHeld l.places l.theirs l.ours l.start
