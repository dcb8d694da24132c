use Rattle.std.proofs.Common.{◌≡◌, true, drop}
use Rattle.lucid_merge.specs.Product.{includes, union}
use Rattle.lucid_merge.proofs.patterns.include_rest.Given as goal

-- the literals so far are included
abbrev pub invariant-loop-at : goal.invariant-loop-at
invariant-loop-at l = includes (union l.p l.q) (drop l.at l.rest) ≡ true
