use Rattle.std.proofs.Common.{◌∙◌}
use Rattle.lucid_base.proofs.Widths.{low-word, low-difference}
use Rattle.lucid_base.proofs.ops.bin_value.Goals as goal

pub returns-in-Add : goal.returns-in-Add
returns-in-Add c = rw c.in-Add.is (c.low.ensures.value ∙ low-word c.args.width _ c.low.ensures.in_word)

pub returns-in-Sub : goal.returns-in-Sub
returns-in-Sub c =
    rw c.in-Sub.is
    (c.low-in-Sub.ensures.value ∙ low-difference c.args.width c.args.a c.args.b c.low-in-Sub.ensures.in_word c.requires)
