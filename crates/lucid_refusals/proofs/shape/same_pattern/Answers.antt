use Rattle.std.proofs.Common.{sym, ◌∙◌, arith}
use Rattle.std.proofs.lemmas.List.{take_more_same, take_all}
use Rattle.lucid_merge.proofs.Literals.{literal_is}
use Rattle.lucid_refusals.proofs.shape.same_pattern.Goals as goal

pub loop-at-preserved : goal.loop-at-preserved
loop-at-preserved c =
    take_more_same c.args.p.now c.args.q.now c.loop-at.at _ c.loop-at-test.true (omega arith) c.loop-at.invariant (literal_is _ _ (sym c.is_same.ensures ∙ c.if-not-is_same.false))

pub returns : goal.returns
returns c = λ _. sym (take_all c.loop-at.at c.args.p.now c.loop-at-test.false) ∙ c.loop-at.invariant ∙ take_all c.loop-at.at c.args.q.now (omega arith)
