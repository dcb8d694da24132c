use Rattle.std.proofs.Common.{◌∷◌, ◌+◌, ◌∙◌, ap, drop, sym}
use Rattle.std.specs.List.{flat_map}
use Rattle.std.proofs.lemmas.List.{drop_more}
use Rattle.lucid_tables.specs.Numbers.{with_number, with_numbers}
use Rattle.lucid_tables.specs.Registers.{used_by}
use Rattle.std.proofs.lemmas.List.Sums.{fold-append}
use Rattle.lucid_tables.proofs.registers.registers_of.Goals as goal

pub loop-op-preserved : goal.loop-op-preserved
loop-op-preserved c =
    let l = c.loop-op in
    let ops = c.ops-op-items.result.now in
    let rest = flat_map used_by (drop (l.op-index + 1) ops) in (
      c.in_ok-put_numbers.ensures.rises,
      ap (λ ks. with_numbers ks rest) (c.in_ok-put_numbers.ensures.value ∙ ap (with_numbers l.registers.items) (c.as_slice.ensures.value ∙ c.in_ok-put_used.ensures))
          ∙ sym (fold-append with_number l.registers.items (used_by c.op-item.result) rest)
          ∙ sym (ap (λ os. with_numbers l.registers.items (flat_map used_by os)) (drop_more ops l.op-index c.op-item.result c.loop-op-test.true ∙ ap (λ o. o ∷ drop (l.op-index + 1) ops) (sym c.op-item.is)))
          ∙ l.invariant.1,
    )
