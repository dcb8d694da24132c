use Rattle.std.proofs.Common.{◌∙◌, ◌<◌, length, arith, slice_index_or}
use Rattle.std.proofs.lemmas.List.Elements.{All-get_or}
use Rattle.std.proofs.lemmas.Grind.{elements}
use Rattle.lucid_size.proofs.Dealing.{deal_turn, set_length}
use Rattle.lucid_size.proofs.widths.deal.Goals as goal

pub loop-instance-preserved : goal.loop-instance-preserved
loop-instance-preserved c =
    let found = c.args.found.now in
    let at = c.loop-instance.instance-index in
    let i = slice_index_or found at (record { template = 0; width = 0 }) in
    let low : i.template < length c.loop-instance.rows.items = let a = All-get_or (λ i. i.template < c.args.templates) found at (record { template = 0; width = 0 }) c.loop-instance-test.true c.requires in omega (arith, a, c.loop-instance.invariant.many) in
    record {
      many = set_length c.loop-instance.rows.items i.template c.push.new.self ∙ c.loop-instance.invariant.many;
      dealt = deal_turn c.loop-instance.rows.items found at (record { template = 0; width = 0 }) c.index_mut.result.now c.push.new.self c.loop-instance-test.true low c.index_mut.ensures.value c.in_ok-push.ensures.ok c.loop-instance.invariant.dealt;
    }

pub loop-instance-init : goal.loop-instance-init
loop-instance-init c = grind (arith, elements)

pub returns-clause-dealt : goal.returns-clause-dealt
returns-clause-dealt c = grind (arith, elements)
