use Rattle.lucid_io.proofs.Leaves.{on_err}
use Rattle.lucid_drive.specs.Sights.{sights_to}
use Rattle.lucid_drive.specs.Standing.{drive_of}
use Rattle.lucid_drive.proofs.Running.{below, stepping_cut, stepping_first, stepping_next, steps_sights, steps_text}
use Rattle.lucid_drive.proofs.Seeing.{showing_some}
use Rattle.lucid_drive.proofs.whole.drive_steps.Goals as goal

pub loop-step-init : goal.loop-step-init
loop-step-init g c = stepping_first g.S.Sink.written g.S.Sink.faults c.args.sink.now (g.V.Watch.seen c.args.watch.now) c.args.core.now c.args.scene.now c.args.pipe.now c.args.state.now c.args.count c.requires.at c.requires.begins

pub drive_step-requires-clause-at : goal.drive_step-requires-clause-at
drive_step-requires-clause-at g c = c.loop-step.invariant.at

pub drive_step-requires-clause-there : goal.drive_step-requires-clause-there
drive_step-requires-clause-there g c =
    below c.args.sink.now c.loop-step.sink (g.V.Watch.seen c.args.watch.now) (g.V.Watch.seen c.loop-step.watch) c.args.core.now c.args.scene.now c.args.pipe.now c.loop-step.pipe c.loop-step.state c.args.count c.loop-step._step
    c.loop-step-test.true c.requires.within c.loop-step.invariant

pub loop-step-preserved : goal.loop-step-preserved
loop-step-preserved g c =
    stepping_next c.args.sink.now c.loop-step.sink (g.V.Watch.seen c.args.watch.now) (g.V.Watch.seen c.loop-step.watch) c.args.core.now c.args.scene.now c.args.pipe.now c.loop-step.pipe c.loop-step.state c.args.count c.loop-step._step
    c.loop-step-test.true c.requires.within c.loop-step.invariant c.drive_step.new.sink (g.V.Watch.seen c.show.new.watch) c.drive_step.new.pipe c.drive_step.new.state c.in_ok-drive_step.ensures.placed c.in_ok-drive_step.ensures.done c.in_ok-drive_step.ensures.at
    c.in_ok-drive_step.ensures.all c.show.ensures

pub returns-in_err-drive_step-clause-part : goal.returns-in_err-drive_step-clause-part
returns-in_err-drive_step-clause-part g c =
    on_err c.from_residual.result
    (stepping_cut c.args.sink.now c.loop-step.sink (g.V.Watch.seen c.args.watch.now) (g.V.Watch.seen c.loop-step.watch) c.args.core.now c.args.scene.now c.args.pipe.now c.loop-step.pipe c.loop-step.state c.args.count c.loop-step._step
    c.loop-step-test.true c.requires.within c.loop-step.invariant c.drive_step.new.sink c.in_err-drive_step.ensures.part)

pub returns-in_err-drive_step-clause-first_sights : goal.returns-in_err-drive_step-clause-first_sights
returns-in_err-drive_step-clause-first_sights g c =
    on_err c.from_residual.result (showing_some (g.V.Watch.seen c.args.watch.now) (g.V.Watch.seen c.loop-step.watch) (sights_to (drive_of c.args.core.now c.args.pipe.now c.args.scene.now) c.args.count) _ c.loop-step.invariant.sights)

pub returns-clause-all : goal.returns-clause-all
returns-clause-all g c =
    steps_text c.args.core.now c.args.scene.now c.args.pipe.now c.loop-step.pipe c.loop-step.state c.args.count c.loop-step._step c.loop-step-test.false c.requires.within c.loop-step.invariant

pub returns-clause-sights : goal.returns-clause-sights
returns-clause-sights g c =
    steps_sights c.args.core.now c.args.scene.now c.args.pipe.now c.loop-step.pipe c.loop-step.state c.args.count c.loop-step._step c.loop-step-test.false c.requires.within c.loop-step.invariant
