use Rattle.std.proofs.Common.{◌<◌, ◌^◌, subst}
use Rattle.std.specs.Prelude.{All}
use Rattle.lucid_core.specs.declared.defs.HandlerDef.{HandlerDef}
use Rattle.lucid_top_fit.proofs.RoomLemmas.{for_room, normal_follows, normal_is_valid}
use Rattle.lucid_top_laws.proofs.OursLemmas.{ours_keep}
use Rattle.lucid_top_laws.proofs.laws.refused_for_room.Goals as goal

pub returns-clause-room : goal.returns-clause-room
returns-clause-room c accepted =
    let small = subst (All (λ (h : HandlerDef). h.event < 2 ^ 32)) c.handlers.ensures.value c.events_have_32_bits.ensures in
    for_room c.args.core.now c.stuck_for_room.ensures c.lists_keep_the_laws.ensures.nodes
    (normal_is_valid c.args.core.now c.keeps_order.ensures c.flat_is_valid.ensures small accepted)
    (normal_follows c.args.core.now c.keeps_order.ensures c.flat_is_valid.ensures accepted)

pub returns-clause-ours : goal.returns-clause-ours
returns-clause-ours c = ours_keep c.passes_keep_nodes.ensures.fold c.passes_keep_nodes.ensures.copies c.passes_keep_nodes.ensures.dead c.passes_keep_nodes.ensures.direct
