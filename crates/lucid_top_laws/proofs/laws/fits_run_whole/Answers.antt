use Rattle.std.proofs.Common.{◌<◌, ◌^◌, subst}
use Rattle.std.specs.Prelude.{All}
use Rattle.lucid_core.specs.declared.defs.HandlerDef.{HandlerDef}
use Rattle.lucid_top_fit.proofs.RoomLemmas.{normal_is_valid}
use Rattle.lucid_top_laws.proofs.Packets.{fits_run_whole}
use Rattle.lucid_top_laws.proofs.laws.fits_run_whole.Goals as goal

pub returns : goal.returns
returns c accepted =
    let small = subst (All (λ (h : HandlerDef). h.event < 2 ^ 32)) c.handlers.ensures.value c.events_have_32_bits.ensures in
    fits_run_whole c.args.core.now c.code_stands.ensures c.lists_keep_the_laws.ensures.replaces c.products_act.ensures c.products_name.ensures c.guards_contradict.ensures
    (normal_is_valid c.args.core.now c.keeps_order.ensures c.flat_is_valid.ensures small accepted)
