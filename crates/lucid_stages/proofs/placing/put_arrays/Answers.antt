use Rattle.std.proofs.Common.{[], ◌∷◌, ◌+◌, ◌∙◌, ap, drop, get_or, sym}
use Rattle.std.proofs.lemmas.List.{drop_more}
use Rattle.lucid_tables.specs.Numbers.{with_numbers}
use Rattle.lucid_stages.specs.Placing.{arrays_at}
use Rattle.lucid_stages.proofs.PlacingLemmas.{more_arrays}
use Rattle.lucid_stages.proofs.placing.put_arrays.Goals as goal

pub loop-place-preserved : goal.loop-place-preserved
loop-place-preserved c =
    let l = c.loop-place in
    let ops = c.args.ops.now in
    let places = c.args.places.now in
    let rest = drop (l.place-index + 1) places in (
      c.in_ok-put_array.ensures.rises,
      ap (λ ks. with_numbers ks (arrays_at ops rest)) c.in_ok-put_array.ensures.value
          ∙ sym (more_arrays ops l.arrays.items (get_or places l.place-index 0 ∷ []) rest)
          ∙ sym (ap (λ ps. with_numbers l.arrays.items (arrays_at ops ps)) (drop_more places l.place-index 0 c.loop-place-test.true))
          ∙ l.invariant.1,
    )
