use Rattle.std.proofs.Common.{refl, ◌∙◌, drop}
use Rattle.std.proofs.lemmas.Result.{on_err_weaker, on_ok_weaker}
use Rattle.lucid_io.proofs.Leaves.{on_err}
use Rattle.lucid_drive.specs.Drive.{text_from}
use Rattle.lucid_drive.specs.Standing.{drive_of}
use Rattle.lucid_drive.specs.State.{progress_at}
use Rattle.lucid_drive.proofs.Joining.{end_cut, end_put, on_ok, rest_cut, steps_cut}
use Rattle.lucid_drive.proofs.Running.{drive_same}
use Rattle.lucid_snap.specs.Log.{log_after}
use Rattle.lucid_snap.proofs.Trailing.{follows_some, whole_copies}
use Rattle.lucid_snap.proofs.driven.follow.Goals as goal

pub follow_rest-requires-clause-follows : goal.follow_rest-requires-clause-follows
follow_rest-requires-clause-follows g c = follows_some c.args.snap.now c.follow_steps.new.snap c.args.pipe.now c.follow_steps.new.pipe c.in_ok-follow_steps.ensures.follows c.requires.follows

pub returns-in_err-follow_steps-clause-part : goal.returns-in_err-follow_steps-clause-part
returns-in_err-follow_steps-clause-part g c =
    let d = drive_of c.args.core.now c.args.pipe.now c.args.scene.now in
    let n = c.args.state.now.done in
    on_err c.from_residual.result
    (steps_cut d d d (log_after d n) (text_from d (progress_at d n 0) (drop n c.args.scene.now.steps)) 0 refl refl refl c.args.sink.now c.args.sink.now c.args.sink.now c.follow_steps.new.sink c.in_err-follow_steps.ensures.part)

pub returns-in_err-follow_rest-clause-part : goal.returns-in_err-follow_rest-clause-part
returns-in_err-follow_rest-clause-part g c =
    let d = drive_of c.args.core.now c.args.pipe.now c.args.scene.now in
    let n = c.args.state.now.done in
    let d_rest = drive_of c.args.core.now c.follow_steps.new.pipe c.args.scene.now in
    let same = drive_same c.args.core.now c.args.scene.now c.follow_steps.new.pipe c.args.pipe.now c.in_ok-follow_steps.ensures.placed in
    on_err c.from_residual-in_err-follow_rest.result
    (rest_cut d d_rest d_rest (log_after d n) (text_from d (progress_at d n 0) (drop n c.args.scene.now.steps)) 0 same same refl c.args.sink.now c.follow_steps.new.sink c.follow_steps.new.sink c.follow_rest.new.sink
    c.in_ok-follow_steps.ensures.all c.in_err-follow_rest.ensures.part)

pub returns-clause-all : goal.returns-clause-all
returns-clause-all g c =
    let d = drive_of c.args.core.now c.args.pipe.now c.args.scene.now in
    let n = c.args.state.now.done in
    let d_rest = drive_of c.args.core.now c.follow_steps.new.pipe c.args.scene.now in
    let d_end = drive_of c.args.core.now c.follow_rest.new.pipe c.args.scene.now in
    let same_rest = drive_same c.args.core.now c.args.scene.now c.follow_steps.new.pipe c.args.pipe.now c.in_ok-follow_steps.ensures.placed in
    let same_end = drive_same c.args.core.now c.args.scene.now c.follow_rest.new.pipe c.args.pipe.now (c.in_ok-follow_rest.ensures.placed ∙ c.in_ok-follow_steps.ensures.placed) in
    on_ok_weaker c.drive_end.result
    (λ put. end_put d d_rest d_end (log_after d n) (text_from d (progress_at d n 0) (drop n c.args.scene.now.steps)) c.follow_rest.new.state.entered same_rest same_end refl c.args.sink.now c.follow_steps.new.sink c.follow_rest.new.sink c.drive_end.new.sink
    c.in_ok-follow_steps.ensures.all c.in_ok-follow_rest.ensures.all c.in_ok-follow_rest.ensures.entered put)
    c.drive_end.ensures.all

pub returns-clause-part : goal.returns-clause-part
returns-clause-part g c =
    let d = drive_of c.args.core.now c.args.pipe.now c.args.scene.now in
    let n = c.args.state.now.done in
    let d_rest = drive_of c.args.core.now c.follow_steps.new.pipe c.args.scene.now in
    let d_end = drive_of c.args.core.now c.follow_rest.new.pipe c.args.scene.now in
    let same_rest = drive_same c.args.core.now c.args.scene.now c.follow_steps.new.pipe c.args.pipe.now c.in_ok-follow_steps.ensures.placed in
    let same_end = drive_same c.args.core.now c.args.scene.now c.follow_rest.new.pipe c.args.pipe.now (c.in_ok-follow_rest.ensures.placed ∙ c.in_ok-follow_steps.ensures.placed) in
    on_err_weaker c.drive_end.result
    (λ cut. end_cut d d_rest d_end (log_after d n) (text_from d (progress_at d n 0) (drop n c.args.scene.now.steps)) c.follow_rest.new.state.entered same_rest same_end refl c.args.sink.now c.follow_steps.new.sink c.follow_rest.new.sink c.drive_end.new.sink
    c.in_ok-follow_steps.ensures.all c.in_ok-follow_rest.ensures.all c.in_ok-follow_rest.ensures.entered cut)
    c.drive_end.ensures.part

pub returns-clause-copies : goal.returns-clause-copies
returns-clause-copies g c =
    on_ok c.drive_end.result
    (λ cells f. whole_copies c.follow_rest.new.snap c.follow_rest.new.pipe cells c.in_ok-follow_rest.ensures.empty
    (c.in_ok-follow_rest.ensures.follows cells (c.in_ok-follow_steps.ensures.follows cells f)))
