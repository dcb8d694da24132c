use Rattle.std.proofs.Common.{◌≡◌, drop}
use Rattle.lucid_constraints.specs.Circle.{earlier, first_place}
use Rattle.lucid_constraints.proofs.look.place_of_earlier.Given as goal

abbrev pub invariant-loop-other : goal.invariant-loop-other
invariant-loop-other l = (l.at ≡ l.other-index) × (first_place (λ y. earlier l.arrays y l.name) (drop l.other-index l.names) l.at ≡ first_place (λ y. earlier l.arrays y l.name) l.names 0)
