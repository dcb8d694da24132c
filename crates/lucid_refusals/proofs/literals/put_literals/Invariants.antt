use Rattle.std.proofs.Common.{◌≡◌, drop}
use Rattle.std.specs.List.{fold}
use Rattle.lucid_merge.specs.Product.{with_literal}
use Rattle.lucid_refusals.proofs.literals.put_literals.Given as goal

-- the rest gives, with the items so far, the result of the whole
abbrev pub invariant-loop-literal : goal.invariant-loop-literal
invariant-loop-literal l = fold with_literal l.literals (drop l.literal-index l.pattern) ≡ fold with_literal l.fn.literals l.pattern
