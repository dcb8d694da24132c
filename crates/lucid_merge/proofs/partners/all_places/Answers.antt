use Rattle.std.proofs.Common.{◌≡◌, ℕ, ◌+◌, List, [], ◌∷◌, ◌++◌, length, drop, sym, subst, arith, length-append}
use Rattle.std.proofs.lemmas.Grind.{common_steps}
use Rattle.lucid_merge.specs.Standing.{rows_at}
use Rattle.lucid_merge.proofs.PartnersLemmas.{place_more}
use Rattle.lucid_merge.proofs.partners.all_places.Goals as goal

pub loop-place-preserved : goal.loop-place-preserved
loop-place-preserved c =
    let rows = c.args.rows.now in
    let all = c.loop-place.all.items in
    let i = c.loop-place.place in
    subst (λ (xs : List ℕ). (rows_at rows xs ++ drop (i + 1) rows ≡ rows) × (length xs ≡ i + 1)) (sym c.in_ok-push.ensures.items) (
      place_more rows all i c.loop-place-test.true c.loop-place.invariant.0,
      omega (arith, length-append all (i ∷ []), c.loop-place.invariant.1),
    )

pub returns : goal.returns
returns c = grind (arith, common_steps)
