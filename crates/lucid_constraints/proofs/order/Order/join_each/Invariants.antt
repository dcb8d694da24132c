use Rattle.std.proofs.Common.{◌≡◌, drop}
use Rattle.lucid_constraints.specs.Substitution.{needs_from}
use Rattle.lucid_constraints.proofs.order.Order.join_each.Given as goal

abbrev pub invariant-loop-pair : goal.invariant-loop-pair
invariant-loop-pair l = needs_from l.names l.start l.self (drop l.pair-index l.pairs) ≡ needs_from l.names l.start l.fn.self l.pairs
