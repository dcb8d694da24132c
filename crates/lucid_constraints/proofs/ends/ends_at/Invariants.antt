use Rattle.std.proofs.Common.{◌≡◌, [], drop}
use Rattle.lucid_constraints.specs.Seen.{Seen}
use Rattle.lucid_constraints.specs.Substitution.{ends_from}
use Rattle.lucid_constraints.proofs.ends.ends_at.Given as goal

abbrev pub invariant-loop-atom : goal.invariant-loop-atom
invariant-loop-atom l = (ends_from l.names l.start l.done (drop l.atom-index l.ends) ≡ ends_from l.names l.start [] l.ends) × Seen l.seen l.done
