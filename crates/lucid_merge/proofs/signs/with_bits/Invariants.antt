use Rattle.std.proofs.Common.{◌≡◌, drop}
use Rattle.lucid_merge.specs.Signs.{with_bits}
use Rattle.lucid_merge.proofs.signs.with_bits.Given as goal

-- the rest gives, with the items so far, the result of the whole
abbrev pub invariant-loop-literal : goal.invariant-loop-literal
invariant-loop-literal l = with_bits l.bits l.sign (drop l.literal-index l.pattern) ≡ with_bits l.bits l.from l.pattern
