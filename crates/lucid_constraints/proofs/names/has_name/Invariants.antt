use Rattle.std.proofs.Common.{◌≡◌, drop}
use Rattle.std.specs.List.{list_any}
use Rattle.lucid_constraints.specs.Same.{same_name}
use Rattle.lucid_constraints.proofs.names.has_name.Given as goal

abbrev pub invariant-loop-other : goal.invariant-loop-other
invariant-loop-other l = list_any (same_name l.name) (drop l.other-index l.names) ≡ list_any (same_name l.name) l.names
