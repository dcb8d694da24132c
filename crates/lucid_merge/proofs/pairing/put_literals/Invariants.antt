use Rattle.std.proofs.Common.{◌≡◌, drop}
use Rattle.std.specs.List.{fold}
use Rattle.lucid_merge.specs.Marks.{AreSeen}
use Rattle.lucid_merge.specs.Product.{with_literal}
use Rattle.lucid_merge.proofs.pairing.put_literals.Given as goal

-- the rest gives, with the items so far, the result of the whole
abbrev pub invariant-loop-literal : goal.invariant-loop-literal
invariant-loop-literal l =
    (fold with_literal l.pattern (drop l.literal-index l.more) ≡ fold with_literal l.fn.pattern l.more)
    × AreSeen l.seen.items l.pattern
