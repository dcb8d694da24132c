use Rattle.std.proofs.Common.{◌∙◌, sym, subst}
use Rattle.lucid_refusals.specs.Refusal.{Refuses}
use Rattle.lucid_refusals.proofs.ReadingsLemmas.{item_refuses}
use Rattle.lucid_refusals.proofs.growing.refuses_like.Goals as goal

pub returns-then-branch : goal.returns-then-branch
returns-then-branch c = λ _.
    let known = c.args.known.now in
    c.in_ok-implies.ensures c.if-branch.true known.rows known.patterns (c.as_slice-literals.ensures ∙ known.listed)
    (subst (Refuses known.rows known.patterns) (sym c.as_slice-own.ensures)
    (item_refuses known.rows known.patterns known.shapes c.as_slice-shapes.result.now c.args.at c.index-shapes-at.result
    c.as_slice-shapes.ensures known.refuses c.if-at-shapes.false c.index-shapes-at.is))
