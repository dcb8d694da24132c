use Rattle.std.proofs.Common.{ℕ, List, ◌∷◌, ◌+◌, ◌∙◌, ap, drop, map, sym}
use Rattle.std.specs.List.{flat_map}
use Rattle.std.proofs.lemmas.List.{drop_all, drop_more}
use Rattle.lucid_code.specs.declared.op.Literal.{Literal}
use Rattle.lucid_tables.specs.Numbers.{with_numbers}
use Rattle.lucid_merge.specs.RowCounts.{patterns_of}
use Rattle.lucid_refusals.proofs.RefusalLemmas.{more_fields}
use Rattle.lucid_refusals.proofs.shape.fields_of.Goals as goal

abbrev fields : List Literal → List ℕ
fields p = map (λ (l : Literal). l.field) p

pub loop-row-preserved : goal.loop-row-preserved
loop-row-preserved c =
    let l = c.loop-row in
    let rows = c.args.rows.now in
    let rest = patterns_of (drop (l.row-index + 1) rows) in (
      c.in_ok-put_fields.ensures.rises,
      ap (λ ks. with_numbers ks (flat_map fields rest)) (c.in_ok-put_fields.ensures.value ∙ ap (λ p. with_numbers l.fields.items (fields p)) c.as_slice.ensures)
          ∙ sym (more_fields c.row-item.result.pattern rest l.fields.items)
          ∙ sym (ap (λ rs. with_numbers l.fields.items (flat_map fields (patterns_of rs))) (drop_more rows l.row-index c.row-item.result c.loop-row-test.true ∙ ap (λ r. r ∷ drop (l.row-index + 1) rows) (sym c.row-item.is)))
          ∙ l.invariant.1,
    )

pub returns : goal.returns
returns c =
    let l = c.loop-row in
    sym (ap (λ rs. with_numbers l.fields.items (flat_map fields (patterns_of rs))) (drop_all l.row-index c.args.rows.now c.loop-row-test.false)) ∙ l.invariant.1
