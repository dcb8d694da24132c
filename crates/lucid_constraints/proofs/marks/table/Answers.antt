use Rattle.std.proofs.lemmas.Grind.{common_steps}
use Rattle.std.proofs.Common.{rules, ◌≡◌, ◌+◌, suc, sym, subst, ap, ◌∙◌, take, length, arith}
use Rattle.std.proofs.Math.Seq.{take-length, take-suc}
use Rattle.lucid_constraints.specs.Marks.{Marked}
use Rattle.lucid_constraints.proofs.marks.table.Goals as goal

pub loop-pair-preserved : goal.loop-pair-preserved
loop-pair-preserved c =
    let next : suc c.loop-pair.pair-index ≡ c.loop-pair.pair-index + 1 = omega arith in (
      subst (λ k. Marked c.mark.new.marks.items (take k c.args.pairs.now)) next
          (subst (λ ps. Marked c.mark.new.marks.items ps) (sym (take-suc c.args.pairs.now c.loop-pair.pair-index _ c.loop-pair-test.true)) (c.mark.ensures.notes _ (take c.loop-pair.pair-index c.args.pairs.now) c.pair_number.ensures c.loop-pair.invariant.0)),
      c.mark.ensures.len ∙ c.loop-pair.invariant.1,
    )

pub returns-clause-marked : goal.returns-clause-marked
returns-clause-marked c =
    let end : c.loop-pair.pair-index ≡ length c.args.pairs.now = search rules in
    subst (λ ps. Marked c.loop-pair.marks.items ps) (ap (λ k. take k c.args.pairs.now) end ∙ take-length c.args.pairs.now) c.loop-pair.invariant.0

pub loop-pair-init : goal.loop-pair-init
loop-pair-init c = grind (arith, common_steps)
