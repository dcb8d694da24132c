use Rattle.std.proofs.Common.{◌≡◌, drop}
use Rattle.std.specs.List.{list_any}
use Rattle.lucid_constraints.specs.Same.{same_atom}
use Rattle.lucid_constraints.proofs.seen.has_atom.Given as goal

abbrev pub invariant-loop-other : goal.invariant-loop-other
invariant-loop-other l = list_any (same_atom l.atom) (drop l.other-index l.ends) ≡ list_any (same_atom l.atom) l.ends
