use Rattle.std.proofs.Common.{ℕ, List, ◌∷◌, ◌+◌, ◌∙◌, ap, drop, sym}
use Rattle.std.specs.List.{flat_map}
use Rattle.std.proofs.lemmas.List.{drop_more}
use Rattle.lucid_tables.specs.declared.table.Row.{Row}
use Rattle.lucid_tables.specs.Numbers.{with_numbers}
use Rattle.lucid_stages.specs.Placing.{arrays_at}
use Rattle.lucid_stages.proofs.PlacingLemmas.{more_arrays}
use Rattle.lucid_stages.proofs.placing.put_named.Goals as goal

abbrev named : List Row → List ℕ
named rows = flat_map (λ (r : Row). r.ops) rows

pub loop-row-preserved : goal.loop-row-preserved
loop-row-preserved c =
    let l = c.loop-row in
    let ops = c.args.ops.now in
    let rows = c.as_slice-row-items.result.now in
    let rest = named (drop (l.row-index + 1) rows) in (
      c.in_ok-put_arrays.ensures.rises,
      ap (λ ks. with_numbers ks (arrays_at ops rest)) (c.in_ok-put_arrays.ensures.value ∙ ap (λ is. with_numbers l.arrays.items (arrays_at ops is)) c.as_slice.ensures)
          ∙ sym (more_arrays ops l.arrays.items c.row-item.result.ops rest)
          ∙ sym (ap (λ rs. with_numbers l.arrays.items (arrays_at ops (named rs))) (drop_more rows l.row-index c.row-item.result c.loop-row-test.true ∙ ap (λ r. r ∷ drop (l.row-index + 1) rows) (sym c.row-item.is)))
          ∙ l.invariant.1,
    )
