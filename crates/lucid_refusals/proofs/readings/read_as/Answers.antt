use Rattle.std.proofs.Common.{◌∙◌, ◌++◌, List, length, sym, ap, ap₂, arith}
use Rattle.lucid_code.specs.declared.op.Literal.{Literal}
use Rattle.lucid_refusals.specs.Readings.{reading_of}
use Rattle.lucid_refusals.proofs.ReadingsLemmas.{readings_turn, readings_end, lengths_turn, lengths_end}
use Rattle.lucid_refusals.proofs.readings.read_as.Goals as goal

pub loop-at-preserved : goal.loop-at-preserved
loop-at-preserved c =
    let ps = c.args.ps.now in
    let qs = c.args.qs.now in
    let i = c.loop-at.at in
    let p = c.index-ps-at.result in
    let q = c.index-qs-at.result in (
      readings_turn ps qs i p q c.loop-at.readings c.put_readings.new.readings c.loop-at-test.true (omega (arith, c.loop-at-test.true, c.if-ps-qs.false)) c.index-ps-at.is c.index-qs-at.is
          (c.in_ok-put_readings.ensures ∙ ap₂ (λ (x y : List Literal). c.loop-at.readings ++ reading_of x y) c.as_slice-p.ensures c.as_slice-q.ensures) ∙ c.loop-at.invariant.0,
      lengths_turn ps qs i p q c.loop-at-test.true (omega (arith, c.loop-at-test.true, c.if-ps-qs.false)) c.index-ps-at.is c.index-qs-at.is (sym (ap (λ (x : List Literal). length x) c.as_slice-p.ensures) ∙ c.if-p-q.false ∙ ap (λ (x : List Literal). length x) c.as_slice-q.ensures) ∙ c.loop-at.invariant.1,
    )

pub returns : goal.returns
returns c = (
  sym c.loop-at.invariant.1 ∙ lengths_end c.args.ps.now c.args.qs.now c.loop-at.at c.loop-at-test.false (omega (arith, c.loop-at-test.false, c.if-ps-qs.false)),
  sym (readings_end c.args.ps.now c.args.qs.now c.loop-at.at c.loop-at.readings c.loop-at-test.false) ∙ c.loop-at.invariant.0,
)
