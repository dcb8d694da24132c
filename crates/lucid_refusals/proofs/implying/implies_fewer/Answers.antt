use Rattle.std.proofs.Common.{◌∙◌}
use Rattle.lucid_refusals.proofs.ImplyingLemmas.{refuses_more}
use Rattle.lucid_refusals.proofs.implying.implies_fewer.Goals as goal

pub returns-then-branch : goal.returns-then-branch
returns-then-branch c = λ _ rows patterns e refuses.
    refuses_more rows patterns c.args.literals.now c.as_slice-own.result.now c.args.shape.now c.as_slice-fewer.result.now e
    (c.as_slice-fewer.ensures ∙ c.in_ok-kept.ensures)
    (c.in_ok-implies_alike.ensures c.if-branch.true rows patterns e refuses)
