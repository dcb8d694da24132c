use Rattle.std.proofs.lemmas.Grind.{elements}
use Rattle.std.proofs.Common.{ℕ, List, sym, ◌∙◌, ap, subst, arith}
use Rattle.lucid_io.specs.Puts.{PutsPart}
use Rattle.lucid_drive.specs.Drive.{Done}
use Rattle.lucid_drive.specs.Standing.{drive_of}
use Rattle.lucid_drive.specs.State.{progress_at}
use Rattle.lucid_drive.proofs.Changing.{changed}
use Rattle.lucid_drive.proofs.States.{step_is, stepped, this_step}
use Rattle.lucid_drive.proofs.calls.step_any.Goals as goal

pub returns-in-Ok-clause-at : goal.returns-in-Ok-clause-at
returns-in-Ok-clause-at g c =
    let at = c.requires.at in
    let did = c.step-happened.ensures.did (progress_at (drive_of c.args.core.now c.args.pipe.now c.args.scene.now) c.args.state.now.done 0) (sym at.entered) at.is in
    stepped c.args.core.now c.args.scene.now c.args.state.now c.args.pipe.now c.step-happened.new.pipe c.args.chosen c.step-happened.result at did c.entered_by-state.result c.requires.there
    (this_step c.args.scene.now.steps c.args.state.now.done c.args.chosen c.requires.there c.requires.this) c.step-happened.ensures.placed c.entered_by-state.ensures

pub returns-in-Err-clause-part : goal.returns-in-Err-clause-part
returns-in-Err-clause-part g c =
    let at = c.requires.at in
    let d = drive_of c.args.core.now c.args.pipe.now c.args.scene.now in
    let did = c.step-happened.ensures.did (progress_at d c.args.state.now.done 0) (sym at.entered) at.is in
    let this = this_step c.args.scene.now.steps c.args.state.now.done c.args.chosen c.requires.there c.requires.this in
    subst (λ (t : List ℕ). PutsPart g.S.Sink.written g.S.Sink.faults c.args.sink.now c.put_happened.new.sink t)
    (did.text ∙ sym (ap (λ (q : Done). q.text) (step_is d c.args.state.now.done c.args.chosen c.requires.there this))) c.in-Err.ensures.part

pub returns-in-Ok-clause-changes : goal.returns-in-Ok-clause-changes
returns-in-Ok-clause-changes g c = changed c.args.pipe.now c.step-happened.new.pipe _ c.slot_of.result (sym c.slot_of.ensures) c.step-happened.ensures.changes

pub step-happened-requires-clause-step : goal.step-happened-requires-clause-step
step-happened-requires-clause-step g c = grind (arith, elements)
