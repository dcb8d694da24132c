use Rattle.std.proofs.Common.{◌≡◌, ℕ, ◌+◌, ◌≤◌, List, [], ◌∷◌, ◌++◌, not, length, drop, sym, ap, subst, ◌∙◌, arith, length-append}
use Rattle.std.specs.List.{filter}
use Rattle.lucid_merge.specs.Standing.{may_stand, rows_at}
use Rattle.lucid_merge.proofs.Beside.{placed, passed}
use Rattle.lucid_merge.proofs.near.rows_near.Goals as goal
use Rattle.lucid_merge.proofs.near.rows_near.Goals.{then-not-avoids+in_ok-push, else-not-avoids}

pub loop-place-preserved : goal.loop-place-preserved
loop-place-preserved c =
    let stand = may_stand c.args.field c.args.rest in
    let rows = c.args.rows.now in
    let i = c.loop-place.place in
    elim c.if-not-avoids.branch [
      | then-not-avoids+in_ok-push w ↦
          let e : c.if-not-avoids.places ≡ c.loop-place.places ++ i ∷ [] = cc (w.in_ok-push.ensures.ok) in
          subst (λ (p : List ℕ). (rows_at rows p ++ filter stand (drop (i + 1) rows) ≡ filter stand rows) × (length p ≤ i + 1)) (sym e) (
            placed stand rows c.loop-place.places i c.index-rows-place.result c.loop-place-test.true c.index-rows-place.is c.loop-place.invariant.0 (ap not (sym c.avoids.ensures ∙ w.if-not-avoids.true)),
            omega (arith, length-append c.loop-place.places (i ∷ []), c.loop-place.invariant.1),
          )
      | else-not-avoids w ↦
          subst (λ (p : List ℕ). (rows_at rows p ++ filter stand (drop (i + 1) rows) ≡ filter stand rows) × (length p ≤ i + 1)) (sym w.places-is) (
            passed stand rows c.loop-place.places i c.index-rows-place.result c.loop-place-test.true c.index-rows-place.is c.loop-place.invariant.0 (ap not (sym c.avoids.ensures ∙ w.if-not-avoids.false)),
            omega (arith, c.loop-place.invariant.1),
          )
    ]
