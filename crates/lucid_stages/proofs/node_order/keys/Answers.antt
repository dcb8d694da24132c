use Rattle.std.proofs.Common.{◌∷◌, ◌+◌, ◌∙◌, ap, drop, map, sym}
use Rattle.std.proofs.lemmas.List.{drop_all, drop_more}
use Rattle.lucid_code.specs.Uses.{key_of}
use Rattle.lucid_tables.specs.Numbers.{with_number, with_numbers}
use Rattle.lucid_stages.proofs.node_order.keys.Goals as goal

pub loop-op-preserved : goal.loop-op-preserved
loop-op-preserved c =
    let l = c.loop-op in
    let ops = c.args.ops.now in (
      c.in_ok-put_key.ensures.rises,
      ap (λ ks. with_numbers ks (map key_of (drop (l.op-index + 1) ops))) (c.in_ok-put_key.ensures.value ∙ ap (with_number l.keys.items) c.key.ensures)
          ∙ sym (ap (λ os. with_numbers l.keys.items (map key_of os)) (drop_more ops l.op-index c.op-item.result c.loop-op-test.true ∙ ap (λ o. o ∷ drop (l.op-index + 1) ops) (sym c.op-item.is)))
          ∙ l.invariant.1,
    )

pub returns : goal.returns
returns c =
    let l = c.loop-op in
    sym (ap (λ os. with_numbers l.keys.items (map key_of os)) (drop_all l.op-index c.args.ops.now c.loop-op-test.false)) ∙ l.invariant.1
