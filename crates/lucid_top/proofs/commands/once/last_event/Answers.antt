use Rattle.std.proofs.Common.{add-one, ◌∙◌}
use Rattle.lucid_core.specs.declared.defs.EventDef.{EventDef}
use Rattle.lucid_conf.proofs.LastNamed.{next}
use Rattle.lucid_top.proofs.commands.once.last_event.Goals as goal

pub loop-id-preserved : goal.loop-id-preserved
loop-id-preserved c =
    let e = next (λ (e : EventDef). e.name) c.args.name.now c.args.events.now c.loop-id.id c.loop-id.id c.loop-id.last c.index-events-id.result c.loop-id-test.true in
    rw (add-one, c.later-last.ensures) (e ∙ c.loop-id.invariant)
