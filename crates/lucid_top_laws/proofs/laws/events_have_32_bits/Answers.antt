use Rattle.std.proofs.Common.{◌<◌, ◌^◌, All, subst}
use Rattle.std.proofs.lemmas.List.{take_all}
use Rattle.std.proofs.lemmas.List.Elements.{All-more}
use Rattle.lucid_core.specs.declared.defs.HandlerDef.{HandlerDef}
use Rattle.lucid_top_laws.proofs.laws.events_have_32_bits.Goals as goal

pub loop-handler-preserved : goal.loop-handler-preserved
loop-handler-preserved c =
    let i = c.loop-handler.handler-index in
    All-more (λ (h : HandlerDef). h.event < 2 ^ 32) c.args.handlers.now i c.handler-item.result c.loop-handler-test.true c.loop-handler.invariant
    (subst (λ (h : HandlerDef). h.event < 2 ^ 32) c.handler-item.is c.has_32_bits.ensures)

pub returns : goal.returns
returns c = subst (All (λ (h : HandlerDef). h.event < 2 ^ 32)) (take_all c.loop-handler.handler-index c.args.handlers.now c.loop-handler-test.false) c.loop-handler.invariant
