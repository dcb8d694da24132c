use Rattle.std.proofs.Common.{◌≡◌, ◌∙◌, sym, arith}
use Rattle.lucid_io.specs.declared.reading.Take.TheVariants.{Memory, TooLong}
use Rattle.std.proofs.lemmas.Grind.{common_steps, elements, moves}
use Rattle.lucid_io.proofs.HistoryLemmas.{gave_part, gave_so_far, if_err_of}
use Rattle.lucid_io.proofs.reading.take_rest.Goals as goal

pub fill-preserved : goal.fill-preserved
fill-preserved g c = grind (arith, common_steps)

pub returns-in_err-extend_from_slice-in-Ok-clause-no_more : goal.returns-in_err-extend_from_slice-in-Ok-clause-no_more
returns-in_err-extend_from_slice-in-Ok-clause-no_more g c = grind (arith, common_steps)

pub returns-in-Err-clause-too_long : goal.returns-in-Err-clause-too_long
returns-in-Err-clause-too_long g c = grind (arith, common_steps)

pub returns-in_err-extend_from_slice-in-Ok-clause-too_long : goal.returns-in_err-extend_from_slice-in-Ok-clause-too_long
returns-in_err-extend_from_slice-in-Ok-clause-too_long g c = grind (arith, common_steps)

pub returns-in-Err-clause-no_more : goal.returns-in-Err-clause-no_more
returns-in-Err-clause-no_more g c = grind (arith, moves)

pub returns-in-Ok-eq0-clause-too_long : goal.returns-in-Ok-eq0-clause-too_long
returns-in-Ok-eq0-clause-too_long g c = grind (arith, common_steps)

pub returns-in_err-extend_from_slice-in-Ok-clause-others : goal.returns-in_err-extend_from_slice-in-Ok-clause-others
returns-in_err-extend_from_slice-in-Ok-clause-others g c = grind (arith, elements)

pub returns-in-Ok-eq0-clause-read_fault : goal.returns-in-Ok-eq0-clause-read_fault
returns-in-Ok-eq0-clause-read_fault g c = grind (arith, common_steps)

pub returns-in-Ok-eq0-clause-given : goal.returns-in-Ok-eq0-clause-given
returns-in-Ok-eq0-clause-given g c = grind (arith, common_steps)

pub returns-in-Err-clause-later : goal.returns-in-Err-clause-later
returns-in-Err-clause-later g c = grind (arith, elements)

pub returns-in_err-extend_from_slice-in-Ok-clause-read_fault : goal.returns-in_err-extend_from_slice-in-Ok-clause-read_fault
returns-in_err-extend_from_slice-in-Ok-clause-read_fault g c = grind (arith, moves)

pub returns-in-Err-clause-read_fault : goal.returns-in-Err-clause-read_fault
returns-in-Err-clause-read_fault g c = grind (arith, elements)

pub returns-in_err-extend_from_slice-in-Ok-clause-quiet : goal.returns-in_err-extend_from_slice-in-Ok-clause-quiet
returns-in_err-extend_from_slice-in-Ok-clause-quiet g c = grind (arith, elements)

pub returns-in-Ok-eq0-clause-no_more : goal.returns-in-Ok-eq0-clause-no_more
returns-in-Ok-eq0-clause-no_more g c = grind (arith, moves)

pub returns-in_err-extend_from_slice-in-Ok-clause-later : goal.returns-in_err-extend_from_slice-in-Ok-clause-later
returns-in_err-extend_from_slice-in-Ok-clause-later g c = grind (arith, elements)

pub returns-clause-longer : goal.returns-clause-longer
returns-clause-longer g c = grind (arith, elements)

pub returns-in-Err-clause-others : goal.returns-in-Err-clause-others
returns-in-Err-clause-others g c = grind (arith, elements)

pub returns-in-Ok-eq0-clause-quiet : goal.returns-in-Ok-eq0-clause-quiet
returns-in-Ok-eq0-clause-quiet g c = grind (arith, elements)

pub returns-in_err-extend_from_slice-in-Ok-clause-heard_part : goal.returns-in_err-extend_from_slice-in-Ok-clause-heard_part
returns-in_err-extend_from_slice-in-Ok-clause-heard_part g c =
    if_err_of c.from_residual.result c.from_residual.ensures.1
    (λ why memory. gave_part _ _ _ _ _ _ c.fill.bytes.items c.read.new.room c.in-Ok.count c.args.limit _ c.fill.invariant.heard c.in-Ok.ensures.heard
    c.fill.invariant.so_far c.in-Ok.ensures.bytes.0 (grind (arith, moves)) (λ long. let no : Memory ≡ TooLong = sym memory ∙ long in cc))

pub returns-in-Err-clause-heard_part : goal.returns-in-Err-clause-heard_part
returns-in-Err-clause-heard_part g c =
    gave_so_far _ _ _ _ c.fill.bytes.items c.args.limit _ (c.in-Err.ensures.heard ∙ c.fill.invariant.heard) c.fill.invariant.so_far (λ long. absurd (cc))

pub returns-clause-heard_part : goal.returns-clause-heard_part
returns-clause-heard_part g c =
    gave_so_far _ _ _ _ c.fill.bytes.items c.args.limit _ c.fill.invariant.heard c.fill.invariant.so_far
    (λ long. omega (arith, c.fill-test.false, c.len.ensures, c.fill.invariant.within))
