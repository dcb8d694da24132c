use Rattle.std.proofs.Common.{◌≡◌, Ok, Err, ap, subst, rules}
use Rattle.lucid_drive.specs.Drive.{Drive}
use Rattle.lucid_drive.specs.Standing.{drive_of}
use Rattle.lucid_pipe.specs.Pipe.{PipeParts}
use Rattle.lucid_snap.specs.Log.{snap_log}
use Rattle.lucid_snap.specs.Writes.{Writes}
use Rattle.lucid_top_words.proofs.Parts.{one-text}
use Rattle.lucid_top.specs.Drive.{driven}
use Rattle.lucid_top.specs.Held.{ready_view}
use Rattle.lucid_top.proofs.Stopping.{snap-stopped}
use Rattle.lucid_top.proofs.commands.snap.snap_ready.Goals as goal

pub returns-in-Ok : goal.returns-in-Ok
returns-in-Ok g c =
    let r = ready_view c.args.ready.now in
    let is : drive_of r.pipes.under.core c.in_ok-pipe.pipe r.scene ≡ driven r = ap (λ (p : PipeParts). drive_of r.pipes.under.core p r.scene) c.in_ok-pipe.ensures in
    let text = snap_log (driven r) c.args.after in
    (text, one-text text, subst (λ (d : Drive). Writes g.W.Sink.written g.W.Sink.faults c.args.out.now c.snap-ended.new.sink (snap_log d c.args.after) (Ok tt)) is c.in-Ok.ensures)

pub returns-in-Err : goal.returns-in-Err
returns-in-Err g c =
    let r = ready_view c.args.ready.now in
    let is : drive_of r.pipes.under.core c.in_ok-pipe.pipe r.scene ≡ driven r = ap (λ (p : PipeParts). drive_of r.pipes.under.core p r.scene) c.in_ok-pipe.ensures in
    let text = snap_log (driven r) c.args.after in
    snap-stopped g.W.Sink.written g.W.Sink.faults c.args.out.now c.snap-ended.new.sink text c.in-Err.error (Err c.of_snap.result)
    (subst (λ (d : Drive). Writes g.W.Sink.written g.W.Sink.faults c.args.out.now c.snap-ended.new.sink (snap_log d c.args.after) (Err c.in-Err.error)) is c.in-Err.ensures) (search rules)
