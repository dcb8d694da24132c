use Rattle.std.proofs.Common.{◌≡◌, drop}
use Rattle.lucid_constraints.specs.Circle.{first_place}
use Rattle.lucid_constraints.specs.Same.{same_name}
use Rattle.lucid_constraints.proofs.look.place_of.Given as goal

abbrev pub invariant-loop-other : goal.invariant-loop-other
invariant-loop-other l = (l.at ≡ l.other-index) × (first_place (same_name l.name) (drop l.other-index l.names) l.at ≡ first_place (same_name l.name) l.names 0)
