use Rattle.std.proofs.Common.{◌≡◌, drop}
use Rattle.std.specs.List.{list_any}
use Rattle.lucid_constraints.specs.Same.{same_pair}
use Rattle.lucid_constraints.proofs.order.has.Given as goal

abbrev pub invariant-loop-other : goal.invariant-loop-other
invariant-loop-other l = list_any (same_pair l.pair) (drop l.other-index l.pairs) ≡ list_any (same_pair l.pair) l.pairs
