use Rattle.std.proofs.Common.{◌≡◌, drop}
use Rattle.lucid_constraints.specs.Circle.{source}
use Rattle.lucid_constraints.proofs.look.source.Given as goal

abbrev pub invariant-loop-pair : goal.invariant-loop-pair
invariant-loop-pair l = source l.name (drop l.pair-index l.pairs) ≡ source l.name l.pairs
