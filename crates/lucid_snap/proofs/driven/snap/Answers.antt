use Rattle.std.proofs.lemmas.Grind.{common_steps}
use Rattle.std.proofs.Common.{rules, Ok, refl, ◌∙◌, arith}
use Rattle.lucid_drive.specs.Standing.{drive_of}
use Rattle.lucid_drive.proofs.Joining.{fresh_stands}
use Rattle.lucid_drive.proofs.Running.{drive_same}
use Rattle.lucid_snap.proofs.Snapping.{shown_is, writes_all, writes_first, writes_no_snap, writes_rest, writes_snap}
use Rattle.lucid_snap.proofs.driven.snap.Goals as goal

pub drive_steps-requires-clause-at : goal.drive_steps-requires-clause-at
drive_steps-requires-clause-at g c =
    fresh_stands c.args.core.now c.args.scene.now c.args.pipe.now c.new-state.result c.requires.scene c.requires.stands_for c.requires.arrays c.requires.fresh c.new-state.ensures

pub returns-in_err-drive_steps : goal.returns-in_err-drive_steps
returns-in_err-drive_steps g c =
    let d = drive_of c.args.core.now c.args.pipe.now c.args.scene.now in
    let count = c.first_steps-count.result in
    writes_first g.S.Sink.written g.S.Sink.faults d d c.args.after count count refl refl c.args.sink.now c.args.sink.now c.args.sink.now c.drive_steps.new.sink c.from_residual.result (search rules) c.in_err-drive_steps.ensures.part

pub returns-in_err-snap : goal.returns-in_err-snap
returns-in_err-snap g c =
    let d = drive_of c.args.core.now c.args.pipe.now c.args.scene.now in
    let count = c.first_steps-count.result in
    writes_no_snap g.S.Sink.written g.S.Sink.faults d d c.args.after count count refl refl c.args.sink.now c.drive_steps.new.sink c.drive_steps.new.sink c.drive_steps.new.sink c.from_residual-in_err-snap.result c.in_ok-drive_steps.ensures.all (search rules)

pub returns-in_err-follow : goal.returns-in_err-follow
returns-in_err-follow g c =
    let d = drive_of c.args.core.now c.args.pipe.now c.args.scene.now in
    let d_follow = drive_of c.args.core.now c.drive_steps.new.pipe c.args.scene.now in
    let count = c.first_steps-count.result in
    let same = drive_same c.args.core.now c.args.scene.now c.drive_steps.new.pipe c.args.pipe.now c.in_ok-drive_steps.ensures.placed in
    writes_rest g.S.Sink.written g.S.Sink.faults d d_follow c.args.after count c.drive_steps.new.state.done same c.in_ok-drive_steps.ensures.done c.args.sink.now c.drive_steps.new.sink c.follow.new.sink c.follow.new.sink c.from_residual-in_err-follow.result
    c.in_ok-drive_steps.ensures.all (search rules) c.in_err-follow.ensures.part

pub returns-in_err-put_snap : goal.returns-in_err-put_snap
returns-in_err-put_snap g c =
    let d = drive_of c.args.core.now c.args.pipe.now c.args.scene.now in
    let d_follow = drive_of c.args.core.now c.drive_steps.new.pipe c.args.scene.now in
    let count = c.first_steps-count.result in
    let same = drive_same c.args.core.now c.args.scene.now c.drive_steps.new.pipe c.args.pipe.now c.in_ok-drive_steps.ensures.placed in
    let shown = shown_is c.args.core.now c.args.scene.now c.args.pipe.now c.drive_steps.new.pipe c.drive_steps.new.state c.args.after c.entered-entered.result c.follow.new.snap.copies c.in_ok-drive_steps.ensures.at c.in_ok-drive_steps.ensures.placed
    (c.in_ok-drive_steps.ensures.done ∙ c.first_steps-count.ensures) c.entered-entered.ensures (c.in_ok-follow.ensures.copies _ c.in_ok-snap.ensures) in
    writes_snap g.S.Sink.written g.S.Sink.faults d d_follow c.args.after count c.drive_steps.new.state.done same c.in_ok-drive_steps.ensures.done c.args.sink.now c.drive_steps.new.sink c.follow.new.sink c.put_snap.new.sink c.from_residual-in_err-put_snap.result
    c.in_ok-drive_steps.ensures.all c.in_ok-follow.ensures.all _ shown (search rules) c.in_err-put_snap.ensures.part

pub returns : goal.returns
returns g c =
    let d = drive_of c.args.core.now c.args.pipe.now c.args.scene.now in
    let d_follow = drive_of c.args.core.now c.drive_steps.new.pipe c.args.scene.now in
    let count = c.first_steps-count.result in
    let same = drive_same c.args.core.now c.args.scene.now c.drive_steps.new.pipe c.args.pipe.now c.in_ok-drive_steps.ensures.placed in
    let shown = shown_is c.args.core.now c.args.scene.now c.args.pipe.now c.drive_steps.new.pipe c.drive_steps.new.state c.args.after c.entered-entered.result c.follow.new.snap.copies c.in_ok-drive_steps.ensures.at c.in_ok-drive_steps.ensures.placed
    (c.in_ok-drive_steps.ensures.done ∙ c.first_steps-count.ensures) c.entered-entered.ensures (c.in_ok-follow.ensures.copies _ c.in_ok-snap.ensures) in
    writes_all g.S.Sink.written g.S.Sink.faults d d_follow c.args.after count c.drive_steps.new.state.done same c.in_ok-drive_steps.ensures.done c.args.sink.now c.drive_steps.new.sink c.follow.new.sink c.put_snap.new.sink (Ok tt)
    c.in_ok-drive_steps.ensures.all c.in_ok-follow.ensures.all _ shown c.in_ok-put_snap.ensures.all

pub drive_steps-requires-clause-begins : goal.drive_steps-requires-clause-begins
drive_steps-requires-clause-begins g c = grind (arith, common_steps)

pub drive_steps-requires-clause-within : goal.drive_steps-requires-clause-within
drive_steps-requires-clause-within g c = grind (arith, common_steps)

pub begin-requires-clause-placed : goal.begin-requires-clause-placed
begin-requires-clause-placed g c = grind (arith, common_steps)

pub begin-requires-clause-at : goal.begin-requires-clause-at
begin-requires-clause-at g c = grind (arith, common_steps)

pub follow-requires-clause-at : goal.follow-requires-clause-at
follow-requires-clause-at g c = grind (arith, common_steps)

pub follow-requires-clause-follows : goal.follow-requires-clause-follows
follow-requires-clause-follows g c = grind (arith, common_steps)
