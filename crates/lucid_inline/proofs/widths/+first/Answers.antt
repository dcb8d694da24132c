use Rattle.std.proofs.lemmas.Option.{IfSome_then}
use Rattle.lucid_inline.specs.Widths.{returned_size}
use Rattle.lucid_inline.proofs.WidthsLemmas.{in_first, in_second}
use Rattle.lucid_inline.proofs.widths.+first.Goals as goal

pub returned-returns-in-Some-clause-inside : goal.returned-returns-in-Some-clause-inside
returned-returns-in-Some-clause-inside _ c =
    in_first (returned_size c.in-Some.answer.now) c.args.stmt.now c.in-If.field-0 c.in-If.yes c.in-If.no c.as_slice.result.now c.in-If.is c.as_slice.ensures c.in-Some.ensures.inside

pub returned-returns-in-None-clause-inside : goal.returned-returns-in-None-clause-inside
returned-returns-in-None-clause-inside _ c =
    IfSome_then c.first-in-None.result c.first-in-None.ensures.inside
    (λ x less. in_second (returned_size x.now) c.args.stmt.now c.in-If.field-0 c.in-If.yes c.in-If.no c.as_slice-in-None.result.now c.in-If.is c.as_slice-in-None.ensures less)
