use Rattle.std.proofs.Common.{◌≡◌, ◌++◌, drop, map}
use Rattle.lucid_base.specs.declared.event.Target.TheVariants.{At}
use Rattle.lucid_core.specs.Meaning.{generated}
use Rattle.lucid_core_run.specs.Running.{with_state}
use Rattle.lucid_core_run.proofs.acts.send_each.Given as goal

abbrev pub invariant-loop-member : goal.invariant-loop-member
invariant-loop-member l =
    with_state l.run (record l.run.state {
      outs = l.run.state.outs ++ map (generated l.event l.values l.delay) (map At (drop l.member-index l.members));
    })
    ≡ with_state l.fn.run (record l.fn.run.state {
      outs = l.fn.run.state.outs ++ map (generated l.event l.values l.delay) (map At l.members);
    })
