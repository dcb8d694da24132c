use Rattle.std.proofs.Common.{◌∷◌, ◌+◌, ◌∙◌, ap, drop, map, sym}
use Rattle.std.proofs.lemmas.List.{drop_more}
use Rattle.lucid_code.specs.declared.op.Literal.{Literal}
use Rattle.lucid_tables.specs.Numbers.{with_number, with_numbers}
use Rattle.lucid_tables.specs.Rows.{named_fields}
use Rattle.std.proofs.lemmas.List.Sums.{fold-append}
use Rattle.lucid_tables.proofs.table.Table.new.Goals as goal

pub loop-row-preserved : goal.loop-row-preserved
loop-row-preserved c =
    let l = c.loop-row in
    let rows = c.as_slice-row-items.result.now in
    let rest = named_fields (drop (l.row-index + 1) rows) in (
      c.in_ok-put_fields.ensures.rises,
      ap (λ ks. with_numbers ks rest) (c.in_ok-put_fields.ensures.value ∙ ap (λ p. with_numbers l.keys.items (map (λ (g : Literal). g.field) p)) c.as_slice.ensures)
          ∙ sym (fold-append with_number l.keys.items (map (λ (g : Literal). g.field) c.row-item.result.pattern) rest)
          ∙ sym (ap (λ rs. with_numbers l.keys.items (named_fields rs)) (drop_more rows l.row-index c.row-item.result c.loop-row-test.true ∙ ap (λ r. r ∷ drop (l.row-index + 1) rows) (sym c.row-item.is)))
          ∙ l.invariant.1,
    )
