use Rattle.std.proofs.Common.{◌∷◌, ◌+◌, ◌∙◌, ap, drop, sym}
use Rattle.std.specs.List.{flat_map}
use Rattle.std.proofs.lemmas.List.{drop_all, drop_more}
use Rattle.lucid_tables.specs.Numbers.{with_numbers}
use Rattle.lucid_tables.specs.Placed.{named_by}
use Rattle.lucid_stages.specs.Placing.{arrays_at}
use Rattle.lucid_stages.proofs.PlacingLemmas.{more_arrays}
use Rattle.lucid_stages.proofs.placing.arrays_in.Goals as goal

pub loop-table-preserved : goal.loop-table-preserved
loop-table-preserved c =
    let l = c.loop-table in
    let ops = c.args.ops.now in
    let tables = c.args.tables.now in
    let rest = flat_map named_by (drop (l.table-index + 1) tables) in (
      c.in_ok-put_named.ensures.rises,
      ap (λ ks. with_numbers ks (arrays_at ops rest)) c.in_ok-put_named.ensures.value
          ∙ sym (more_arrays ops l.arrays.items (named_by c.table-item.result) rest)
          ∙ sym (ap (λ ts. with_numbers l.arrays.items (arrays_at ops (flat_map named_by ts))) (drop_more tables l.table-index c.table-item.result c.loop-table-test.true ∙ ap (λ t. t ∷ drop (l.table-index + 1) tables) (sym c.table-item.is)))
          ∙ l.invariant.1,
    )

pub returns : goal.returns
returns c =
    let l = c.loop-table in
    sym (ap (λ ts. with_numbers l.arrays.items (arrays_at c.args.ops.now (flat_map named_by ts))) (drop_all l.table-index c.args.tables.now c.loop-table-test.false)) ∙ l.invariant.1
