use Rattle.std.proofs.Common.{◌≡◌, drop}
use Rattle.lucid_constraints.specs.Circle.{named_from}
use Rattle.lucid_constraints.proofs.names.join_each.Given as goal

abbrev pub invariant-loop-pair : goal.invariant-loop-pair
invariant-loop-pair l = named_from l.names.items (drop l.pair-index l.pairs) ≡ named_from l.fn.names.items l.pairs
