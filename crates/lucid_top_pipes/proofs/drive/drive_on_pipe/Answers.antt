use Rattle.std.proofs.Common.{◌≡◌, List, inr, Ok, Result, subst, rules}
use Rattle.lucid_drive.specs.Drive.{Drive, drive_log}
use Rattle.lucid_drive.specs.Sights as drive
use Rattle.lucid_io.specs.Puts.{PutsAll, PutsPart}
use Rattle.lucid_drive.specs.Standing.{drive_of}
use Rattle.lucid_pipe.specs.Pipe.{empty_pipe}
use Rattle.lucid_pipe.specs.Sights.{ShowsAll}
use Rattle.lucid_pipe.specs.declared.sight.Sight.{Sight}
use Rattle.lucid_top_words.specs.declared.refusal.Refusal.{Refusal}
use Rattle.lucid_top_words.specs.declared.refusal.Refusal.TheVariants as refusal
use Rattle.lucid_top_words.specs.Writing.{nowhere}
use Rattle.lucid_top_words.proofs.Parts.{one-text}
use Rattle.lucid_top_pipes.proofs.CausesLemmas.{cut, shown-stopped}
use Rattle.lucid_top_pipes.proofs.DriveLemmas.{drive-is, some-shown}
use Rattle.lucid_top_pipes.proofs.drive.drive_on_pipe.Goals as goal

pub returns-in_err-drive-clause-performs : goal.returns-in_err-drive-clause-performs
returns-in_err-drive-clause-performs g c =
    let d = drive_of c.args.core.now (empty_pipe c.args.placed.now) c.args.scene.now in
    let is = drive-is c.args.core.now c.args.placed.now c.args.scene.now c.in_ok-pipe.pipe c.in_ok-pipe.ensures in
    cut nowhere g.W.Sink.written g.W.Sink.faults c.args.out.now c.drive.new.sink (drive_log d) c.from_residual-in_err-drive.result
    (subst (λ (e : Drive). PutsPart g.W.Sink.written g.W.Sink.faults c.args.out.now c.drive.new.sink (drive_log e)) is c.in_err-drive.ensures.part) (search rules)

pub returns-in_err-drive-clause-shown : goal.returns-in_err-drive-clause-shown
returns-in_err-drive-clause-shown g c =
    let d = drive_of c.args.core.now (empty_pipe c.args.placed.now) c.args.scene.now in
    let is = drive-is c.args.core.now c.args.placed.now c.args.scene.now c.in_ok-pipe.pipe c.in_ok-pipe.ensures in
    shown-stopped {P = Unit {0}} (λ (o : Result (List Sight) Refusal). o ≡ Ok (drive.sights d)) (g.V.Watch.seen c.args.watch.now) (g.V.Watch.seen c.drive.new.watch) (drive.sights d) refusal.WriteFault c.from_residual-in_err-drive.result (one-text (drive.sights d))
    (some-shown (g.V.Watch.seen c.args.watch.now) (g.V.Watch.seen c.drive.new.watch) (drive.sights d)
    (subst (λ (e : Drive). drive.ShowsSome (g.V.Watch.seen c.args.watch.now) (g.V.Watch.seen c.drive.new.watch) (drive.sights e)) is c.in_err-drive.ensures.first_sights)) (search rules)

pub returns-clause-performs : goal.returns-clause-performs
returns-clause-performs g c =
    let d = drive_of c.args.core.now (empty_pipe c.args.placed.now) c.args.scene.now in
    let is = drive-is c.args.core.now c.args.placed.now c.args.scene.now c.in_ok-pipe.pipe c.in_ok-pipe.ensures in
    (drive_log d, one-text (drive_log d), subst (λ (e : Drive). PutsAll g.W.Sink.written g.W.Sink.faults c.args.out.now c.drive.new.sink (drive_log e)) is c.in_ok-drive.ensures.all)

pub returns-clause-shown : goal.returns-clause-shown
returns-clause-shown g c =
    let d = drive_of c.args.core.now (empty_pipe c.args.placed.now) c.args.scene.now in
    let is = drive-is c.args.core.now c.args.placed.now c.args.scene.now c.in_ok-pipe.pipe c.in_ok-pipe.ensures in
    inr (
      drive.sights d,
      one-text (drive.sights d),
      subst (λ (e : Drive). ShowsAll (g.V.Watch.seen c.args.watch.now) (g.V.Watch.seen c.drive.new.watch) (drive.sights e)) is c.in_ok-drive.ensures.sights,
    )
