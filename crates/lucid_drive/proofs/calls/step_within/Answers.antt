use Rattle.std.proofs.Common.{ℕ, List, sym, ◌∙◌, ap, subst}
use Rattle.lucid_conf.specs.declared.scene.Step.TheVariants.{Go}
use Rattle.lucid_io.specs.Puts.{PutsPart}
use Rattle.lucid_drive.specs.Drive.{Done}
use Rattle.lucid_drive.specs.Happened.{happened_within}
use Rattle.lucid_drive.specs.Standing.{drive_of}
use Rattle.lucid_drive.specs.State.{progress_at}
use Rattle.lucid_drive.proofs.Changing.{changed, entered_same}
use Rattle.lucid_drive.proofs.States.{step_is, stepped, this_step}
use Rattle.lucid_drive.proofs.calls.step_within.Goals as goal

pub returns-in-Ok-clause-at : goal.returns-in-Ok-clause-at
returns-in-Ok-clause-at g c =
    let at = c.requires.at in
    let did = c.go_within-moved.ensures.did (progress_at (drive_of c.args.core.now c.args.pipe.now c.args.scene.now) c.args.state.now.done 0) at.is in
    stepped c.args.core.now c.args.scene.now c.args.state.now c.args.pipe.now c.go_within-moved.new.pipe (Go c.args.k) (happened_within c.args.k c.go_within-moved.result) at did c.args.state.now.entered c.requires.there
    (this_step c.args.scene.now.steps c.args.state.now.done (Go c.args.k) c.requires.there c.requires.this) c.go_within-moved.ensures.placed (entered_same c.args.state.now.entered c.args.k c.go_within-moved.result)

pub returns-in-Err-clause-part : goal.returns-in-Err-clause-part
returns-in-Err-clause-part g c =
    let at = c.requires.at in
    let d = drive_of c.args.core.now c.args.pipe.now c.args.scene.now in
    let did = c.go_within-moved.ensures.did (progress_at d c.args.state.now.done 0) at.is in
    let this = this_step c.args.scene.now.steps c.args.state.now.done (Go c.args.k) c.requires.there c.requires.this in
    subst (λ (t : List ℕ). PutsPart g.S.Sink.written g.S.Sink.faults c.args.sink.now c.put_moved.new.sink t)
    (did.text ∙ sym (ap (λ (q : Done). q.text) (step_is d c.args.state.now.done (Go c.args.k) c.requires.there this))) c.in-Err.ensures.part

pub returns-in-Ok-clause-changes : goal.returns-in-Ok-clause-changes
returns-in-Ok-clause-changes g c = changed c.args.pipe.now c.go_within-moved.new.pipe _ c.moved_slot.result (sym c.moved_slot.ensures) c.go_within-moved.ensures.changes
