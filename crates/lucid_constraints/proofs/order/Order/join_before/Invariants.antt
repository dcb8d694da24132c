use Rattle.std.proofs.Common.{◌≡◌, drop, map}
use Rattle.lucid_constraints.specs.Same.{same_pair, join_all}
use Rattle.lucid_constraints.specs.Substitution.{pair}
use Rattle.lucid_constraints.proofs.order.Order.join_before.Given as goal

abbrev pub invariant-loop-atom : goal.invariant-loop-atom
invariant-loop-atom l = join_all same_pair l.self (map (pair l.array) (drop l.atom-index l.start)) ≡ join_all same_pair l.fn.self (map (pair l.array) l.start)
