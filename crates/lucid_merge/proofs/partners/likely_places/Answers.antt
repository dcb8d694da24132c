use Rattle.std.proofs.Common.{length, sym, ap, ◌∙◌, arith}
use Rattle.lucid_merge.specs.Product.{pairs_with}
use Rattle.lucid_merge.specs.Standing.{rows_at, IsNear}
use Rattle.lucid_merge.proofs.Beside.{item_near, near_pairs}
use Rattle.lucid_merge.proofs.partners.likely_places.Goals as goal

pub returns-then-suits : goal.returns-then-suits
returns-then-suits c = λ rows near all.
    let n = c.n-item.result in
    let found : IsNear rows n = item_near rows c.args.near.now c.loop-n.n-index n near c.loop-n-test.true c.n-item.is in (
      ap (pairs_with c.args.row.now) (ap (rows_at rows) c.as_slice.ensures ∙ found.0)
          ∙ near_pairs n.field n.rest c.args.row.now rows (sym c.suits.ensures ∙ c.if-suits.true),
      omega (arith, found.1, ap length c.as_slice.ensures),
    )
