use Rattle.std.proofs.Common.{◌∷◌, [], map, subst, slice_index, arith}
use Rattle.std.proofs.lemmas.Grind.{common_steps, elements}
use Rattle.lucid_merge.specs.Offers.{Offered}
use Rattle.lucid_merge.specs.Product.{pair, kept_of}
use Rattle.lucid_merge.specs.Standing.{rows_at}
use Rattle.lucid_merge.proofs.PartnersLemmas.{place_passes}
use Rattle.lucid_merge.proofs.offer.offer_places.Goals as goal

pub returns-then-not-branch-clause-offered : goal.returns-then-not-branch-clause-offered
returns-then-not-branch-clause-offered g c =
    place_passes c.args.most c.loop-place.place-index c.loop-place.kept c.offer_at.new.kept (kept_of c.args.kept.now (map (pair c.args.a.now) (rows_at c.args.rows.now c.args.places.now))) c.args.a.now c.args.rows.now c.args.places.now
    c.loop-place-test.true c.loop-place.invariant.0
    (subst (Offered c.args.most c.offer_at.new.kept (kept_of c.loop-place.kept (map (pair c.args.a.now) (rows_at c.args.rows.now (slice_index c.args.places.now c.loop-place.place-index ∷ []))))) c.if-not-branch.true c.in_ok-offer_at.ensures.offered)

pub loop-place-preserved : goal.loop-place-preserved
loop-place-preserved g c = grind (arith, common_steps)

pub returns-then-not-branch-clause-steps : goal.returns-then-not-branch-clause-steps
returns-then-not-branch-clause-steps g c = grind (arith, elements)

pub returns-in_err-offer_at-clause-steps : goal.returns-in_err-offer_at-clause-steps
returns-in_err-offer_at-clause-steps g c = grind (arith, elements)
