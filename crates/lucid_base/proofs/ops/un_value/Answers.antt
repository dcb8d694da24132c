use Rattle.std.proofs.Common.{◌∙◌, sym, arith}
use Rattle.lucid_base.proofs.Widths.{low-word, low-negated, shl_out, shr_out}
use Rattle.lucid_base.proofs.ops.un_value.Goals as goal

pub returns-in-Neg : goal.returns-in-Neg
returns-in-Neg c =
    rw c.in-Neg.is
    (c.low.ensures.value
    ∙ low-negated c.args.width c.args.a c.wrapping_neg.result c.low.ensures.in_word c.requires c.wrapping_neg.ensures)

pub returns-then-by-bits : goal.returns-then-by-bits
returns-then-by-bits c =
    rw c.in-Shl.is (c.low-then-by-bits.ensures.value ∙ low-word c.args.width _ c.low-then-by-bits.ensures.in_word)

pub returns-else-by-bits : goal.returns-else-by-bits
returns-else-by-bits c = rw c.in-Shl.is (sym (shl_out c.args.width c.args.a c.in-Shl.by (omega arith)))

pub returns-else-by-bits-2 : goal.returns-else-by-bits-2
returns-else-by-bits-2 c = rw c.in-Shr.is (sym (shr_out c.args.width c.args.a c.in-Shr.by (omega arith) c.requires))
