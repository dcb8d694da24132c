use Rattle.std.proofs.Common.{◌++◌, ◌∷◌, [], subst, arith}
use Rattle.std.proofs.lemmas.Grind.{common_steps, elements}
use Rattle.lucid_merge.specs.Offers.{Offered}
use Rattle.lucid_merge.specs.Product.{default, pairs_with, kept_of}
use Rattle.lucid_merge.proofs.Keeping.{row_passes, end_answers}
use Rattle.lucid_merge.proofs.product.offer_rows.Goals as goal

pub returns-then-not-branch-clause-offered : goal.returns-then-not-branch-clause-offered
returns-then-not-branch-clause-offered g c =
    row_passes c.args.most c.loop-row.row-index c.loop-row.kept c.offer_all.new.kept c.row-item.result c.args.a.now c.args.b.now c.loop-row-test.true c.row-item.is c.loop-row.invariant.0
    (subst (Offered c.args.most c.offer_all.new.kept (kept_of c.loop-row.kept (pairs_with c.row-item.result (c.args.b.now ++ default ∷ [])))) c.if-not-branch.true c.in_ok-offer_all.ensures.offered)

pub returns-clause-offered : goal.returns-clause-offered
returns-clause-offered g c =
    end_answers c.args.most c.loop-row.row-index c.loop-row.kept c.offer_each.new.kept c.args.last.now c.args.a.now c.args.b.now c.offer_each.result c.loop-row-test.false c.requires.last c.loop-row.invariant.0
    c.offer_each.ensures.offered

pub loop-row-preserved : goal.loop-row-preserved
loop-row-preserved g c = grind (arith, common_steps)

pub returns-in_err-offer_all-clause-steps : goal.returns-in_err-offer_all-clause-steps
returns-in_err-offer_all-clause-steps g c = grind (arith, elements)

pub returns-then-not-branch-clause-steps : goal.returns-then-not-branch-clause-steps
returns-then-not-branch-clause-steps g c = grind (arith, elements)
