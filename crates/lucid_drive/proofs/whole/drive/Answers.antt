use Rattle.std.proofs.Common.{refl, ◌∙◌}
use Rattle.std.proofs.lemmas.Result.{on_err_weaker, on_ok_weaker}
use Rattle.lucid_io.proofs.Leaves.{on_err}
use Rattle.lucid_drive.specs.Drive.{drive_log}
use Rattle.lucid_drive.specs.Sights.{sights}
use Rattle.lucid_drive.specs.Standing.{drive_of}
use Rattle.lucid_drive.specs.State.{text_to}
use Rattle.lucid_drive.proofs.Joining.{all_shown, end_cut, end_put, first_shown, fresh_stands, last_cells_are, log_parts, on_ok, rest_cut, some_shown, steps_cut}
use Rattle.lucid_drive.proofs.Running.{drive_same}
use Rattle.lucid_drive.proofs.whole.drive.Goals as goal

pub drive_steps-requires-clause-at : goal.drive_steps-requires-clause-at
drive_steps-requires-clause-at g c =
    fresh_stands c.args.core.now c.args.scene.now c.args.pipe.now c.new-state.result c.requires.scene c.requires.stands_for c.requires.arrays c.requires.fresh c.new-state.ensures

pub returns-in_err-drive_steps-clause-part : goal.returns-in_err-drive_steps-clause-part
returns-in_err-drive_steps-clause-part g c =
    let d = drive_of c.args.core.now c.args.pipe.now c.args.scene.now in
    on_err c.from_residual.result
    (steps_cut d d d (drive_log d) (text_to d c.len-steps.result) 0 refl refl (log_parts d c.len-steps.result c.len-steps.ensures) c.args.sink.now c.args.sink.now c.args.sink.now c.drive_steps.new.sink c.in_err-drive_steps.ensures.part)

pub returns-in_err-drive_steps-clause-first_sights : goal.returns-in_err-drive_steps-clause-first_sights
returns-in_err-drive_steps-clause-first_sights g c =
    on_err c.from_residual.result
    (some_shown (drive_of c.args.core.now c.args.pipe.now c.args.scene.now) (g.V.Watch.seen c.args.watch.now) (g.V.Watch.seen c.drive_steps.new.watch) c.len-steps.result c.len-steps.ensures c.in_err-drive_steps.ensures.first_sights)

pub returns-in_err-drive_rest-clause-part : goal.returns-in_err-drive_rest-clause-part
returns-in_err-drive_rest-clause-part g c =
    let d = drive_of c.args.core.now c.args.pipe.now c.args.scene.now in
    let d_rest = drive_of c.args.core.now c.drive_steps.new.pipe c.args.scene.now in
    let same = drive_same c.args.core.now c.args.scene.now c.drive_steps.new.pipe c.args.pipe.now c.in_ok-drive_steps.ensures.placed in
    on_err c.from_residual-in_err-drive_rest.result
    (rest_cut d d_rest d_rest (drive_log d) (text_to d c.len-steps.result) 0 same same (log_parts d c.len-steps.result c.len-steps.ensures) c.args.sink.now c.drive_steps.new.sink c.drive_steps.new.sink c.drive_rest.new.sink c.in_ok-drive_steps.ensures.all c.in_err-drive_rest.ensures.part)

pub returns-in_err-drive_rest-clause-first_sights : goal.returns-in_err-drive_rest-clause-first_sights
returns-in_err-drive_rest-clause-first_sights g c =
    let d = drive_of c.args.core.now c.args.pipe.now c.args.scene.now in
    on_err c.from_residual-in_err-drive_rest.result
    (first_shown (g.V.Watch.seen c.args.watch.now) (g.V.Watch.seen c.drive_steps.new.watch) (sights d) (all_shown d (g.V.Watch.seen c.args.watch.now) (g.V.Watch.seen c.drive_steps.new.watch) c.len-steps.result c.len-steps.ensures c.in_ok-drive_steps.ensures.sights))

pub returns-clause-all : goal.returns-clause-all
returns-clause-all g c =
    let d = drive_of c.args.core.now c.args.pipe.now c.args.scene.now in
    let d_rest = drive_of c.args.core.now c.drive_steps.new.pipe c.args.scene.now in
    let d_end = drive_of c.args.core.now c.drive_rest.new.pipe c.args.scene.now in
    let same_rest = drive_same c.args.core.now c.args.scene.now c.drive_steps.new.pipe c.args.pipe.now c.in_ok-drive_steps.ensures.placed in
    let same_end = drive_same c.args.core.now c.args.scene.now c.drive_rest.new.pipe c.args.pipe.now (c.in_ok-drive_rest.ensures.placed ∙ c.in_ok-drive_steps.ensures.placed) in
    on_ok_weaker c.drive_end.result
    (λ put. end_put d d_rest d_end (drive_log d) (text_to d c.len-steps.result) c.drive_rest.new.state.entered same_rest same_end (log_parts d c.len-steps.result c.len-steps.ensures) c.args.sink.now c.drive_steps.new.sink c.drive_rest.new.sink c.drive_end.new.sink
    c.in_ok-drive_steps.ensures.all c.in_ok-drive_rest.ensures.all c.in_ok-drive_rest.ensures.entered put)
    c.drive_end.ensures.all

pub returns-clause-part : goal.returns-clause-part
returns-clause-part g c =
    let d = drive_of c.args.core.now c.args.pipe.now c.args.scene.now in
    let d_rest = drive_of c.args.core.now c.drive_steps.new.pipe c.args.scene.now in
    let d_end = drive_of c.args.core.now c.drive_rest.new.pipe c.args.scene.now in
    let same_rest = drive_same c.args.core.now c.args.scene.now c.drive_steps.new.pipe c.args.pipe.now c.in_ok-drive_steps.ensures.placed in
    let same_end = drive_same c.args.core.now c.args.scene.now c.drive_rest.new.pipe c.args.pipe.now (c.in_ok-drive_rest.ensures.placed ∙ c.in_ok-drive_steps.ensures.placed) in
    on_err_weaker c.drive_end.result
    (λ cut. end_cut d d_rest d_end (drive_log d) (text_to d c.len-steps.result) c.drive_rest.new.state.entered same_rest same_end (log_parts d c.len-steps.result c.len-steps.ensures) c.args.sink.now c.drive_steps.new.sink c.drive_rest.new.sink c.drive_end.new.sink
    c.in_ok-drive_steps.ensures.all c.in_ok-drive_rest.ensures.all c.in_ok-drive_rest.ensures.entered cut)
    c.drive_end.ensures.part

pub returns-clause-sights : goal.returns-clause-sights
returns-clause-sights g c =
    on_ok c.drive_end.result
    (all_shown (drive_of c.args.core.now c.args.pipe.now c.args.scene.now) (g.V.Watch.seen c.args.watch.now) (g.V.Watch.seen c.drive_steps.new.watch) c.len-steps.result c.len-steps.ensures c.in_ok-drive_steps.ensures.sights)

pub returns-clause-first_sights : goal.returns-clause-first_sights
returns-clause-first_sights g c =
    let d = drive_of c.args.core.now c.args.pipe.now c.args.scene.now in
    on_err c.drive_end.result
    (first_shown (g.V.Watch.seen c.args.watch.now) (g.V.Watch.seen c.drive_steps.new.watch) (sights d) (all_shown d (g.V.Watch.seen c.args.watch.now) (g.V.Watch.seen c.drive_steps.new.watch) c.len-steps.result c.len-steps.ensures c.in_ok-drive_steps.ensures.sights))

pub returns-clause-empty : goal.returns-clause-empty
returns-clause-empty g c = on_ok c.drive_end.result c.in_ok-drive_rest.ensures.empty

pub returns-clause-cells : goal.returns-clause-cells
returns-clause-cells g c =
    let same_rest = drive_same c.args.core.now c.args.scene.now c.drive_steps.new.pipe c.args.pipe.now c.in_ok-drive_steps.ensures.placed in
    on_ok c.drive_end.result
    (last_cells_are c.args.core.now c.args.scene.now c.drive_rest.new.pipe.cells c.drive_rest.new.state.entered (drive_of c.args.core.now c.drive_steps.new.pipe c.args.scene.now) (drive_of c.args.core.now c.args.pipe.now c.args.scene.now)
    c.drive_end.ensures.cells c.in_ok-drive_rest.ensures.entered same_rest)
