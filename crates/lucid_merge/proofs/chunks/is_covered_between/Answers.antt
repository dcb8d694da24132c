use Rattle.std.proofs.Common.{sym, ◌∙◌, arith}
use Rattle.lucid_merge.specs.Signs.{covers}
use Rattle.lucid_merge.proofs.ChunksLemmas.{found_in, not_in, shorter}
use Rattle.lucid_merge.proofs.chunks.is_covered_between.Goals as goal

pub returns-then-is_covered_in-clause-value : goal.returns-then-is_covered_in-clause-value
returns-then-is_covered_in-clause-value g c =
    sym (sym c.loop-number.invariant.0
    ∙ found_in (covers c.args.p.now c.args.q.now) c.loop-number.number c.args.to c.args.rows.now c.loop-number-test.true (sym c.is_covered_in.ensures.value ∙ c.if-is_covered_in.true))

pub returns-then-is_covered_in-clause-steps : goal.returns-then-is_covered_in-clause-steps
returns-then-is_covered_in-clause-steps g c =
    omega (arith, c.is_covered_in.ensures.steps, c.loop-number.invariant.1, shorter c.loop-number.number c.args.to c.args.rows.now c.loop-number-test.true)

pub loop-number-preserved : goal.loop-number-preserved
loop-number-preserved g c = (
  not_in (covers c.args.p.now c.args.q.now) c.loop-number.number c.args.to c.args.rows.now c.loop-number-test.true (sym c.is_covered_in.ensures.value ∙ c.if-is_covered_in.false)
      ∙ c.loop-number.invariant.0,
  omega (arith, c.is_covered_in.ensures.steps, c.loop-number.invariant.1, shorter c.loop-number.number c.args.to c.args.rows.now c.loop-number-test.true),
)
