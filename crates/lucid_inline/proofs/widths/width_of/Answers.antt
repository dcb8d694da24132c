use Rattle.lucid_inline.proofs.WidthsLemmas.{in_call}
use Rattle.lucid_inline.proofs.widths.width_of.Goals as goal

pub loop-head-smaller : goal.loop-head-smaller
loop-head-smaller c =
    in_call c.loop-head.head.now c.in-Some-Some.x c.in-Inlined.field-0 c.in-Inlined.stmts c.as_slice.result.now c.in-Some-Some.field-0.now c.in-Inlined.is c.as_slice.ensures
    c.in-Some-Some.field-0-is c.in-Some-Some.ensures.inside
