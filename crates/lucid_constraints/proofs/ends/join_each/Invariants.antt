use Rattle.std.proofs.Common.{◌≡◌, drop}
use Rattle.lucid_constraints.specs.Same.{same_atom, join_all}
use Rattle.lucid_constraints.specs.Seen.{Seen}
use Rattle.lucid_constraints.proofs.ends.join_each.Given as goal

abbrev pub invariant-loop-atom : goal.invariant-loop-atom
invariant-loop-atom l = (join_all same_atom l.ends (drop l.atom-index l.more) ≡ join_all same_atom l.fn.ends l.more) × Seen l.seen l.ends
