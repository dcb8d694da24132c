use Rattle.std.proofs.Common.{◌≡◌, Ok, Result, List, rules}
use Rattle.lucid_drive.specs.Drive.{drive_log}
use Rattle.lucid_drive.specs.Sights.{sights}
use Rattle.lucid_pipe.specs.declared.sight.Sight.{Sight}
use Rattle.lucid_top_fit.specs.Passes.{passes_view}
use Rattle.lucid_top_words.specs.declared.refusal.Refusal.{Refusal}
use Rattle.lucid_top_words.specs.Files.{texts_in}
use Rattle.lucid_top_words.specs.Outcome.{Outcome}
use Rattle.lucid_top_words.specs.Words.{word_at}
use Rattle.lucid_top_words.specs.Writing.{nowhere}
use Rattle.lucid_top_words.proofs.Seen.{untouched}
use Rattle.lucid_top.specs.declared.commands.setup.Ready.{Ready}
use Rattle.lucid_top.specs.Held.{ready_view}
use Rattle.lucid_top.specs.Drive.{driven}
use Rattle.lucid_top.specs.Pipes.{IsReady}
use Rattle.lucid_top.proofs.Runs.{declined, performs-after, ran-err, ran-ok, shown-after}
use Rattle.lucid_top.proofs.commands.drive.drive.Goals as goal

pub returns-in_err-ready-clause-performs : goal.returns-in_err-ready-clause-performs
returns-in_err-ready-clause-performs g c =
    let text = word_at (texts_in c.args.texts.now) in
    let ps = passes_view (λ b. (goal.Pass-dyn g (b.vtable, b.value)).called b.value) (λ b. (goal.Pass-dyn g (b.vtable, b.value)).gives b.value) (λ b. (goal.Pass-dyn g (b.vtable, b.value)).count b.value) c.args.passes.now.items in
    declined g.W.Sink.written g.W.Sink.faults c.args.out.now c.args.out.now nowhere (IsReady (text 0) (text 1) (text 2) ps) (λ r (p : Outcome). p ≡ Ok (drive_log (driven r)))
    c.in_err-ready.field-0.0 c.from_residual.result c.in_err-ready.ensures.ready (search rules) untouched

pub returns-in_err-ready-clause-ran : goal.returns-in_err-ready-clause-ran
returns-in_err-ready-clause-ran g c = ran-err Ready (Unit {0}) _ _ _ c.in_err-ready.field-0.0 c.from_residual.result c.in_err-ready.ensures.ran (search rules)

pub returns-clause-performs : goal.returns-clause-performs
returns-clause-performs g c =
    let text = word_at (texts_in c.args.texts.now) in
    let ps = passes_view (λ b. (goal.Pass-dyn g (b.vtable, b.value)).called b.value) (λ b. (goal.Pass-dyn g (b.vtable, b.value)).gives b.value) (λ b. (goal.Pass-dyn g (b.vtable, b.value)).count b.value) c.args.passes.now.items in
    performs-after g.W.Sink.written g.W.Sink.faults c.args.out.now c.drive_ready.new.out nowhere (IsReady (text 0) (text 1) (text 2) ps) (λ r (p : Outcome). p ≡ Ok (drive_log (driven r)))
    c.in_ok-ready.ensures.ready (λ begun none. none) c.drive_ready.result c.drive_ready.ensures.performs

pub returns-clause-ran : goal.returns-clause-ran
returns-clause-ran g c = ran-ok Ready (Unit {0}) _ _ _ c.in_ok-ready.ready c.drive_ready.result c.in_ok-ready.ensures.ran

pub returns-clause-shown : goal.returns-clause-shown
returns-clause-shown g c =
    let text = word_at (texts_in c.args.texts.now) in
    let ps = passes_view (λ b. (goal.Pass-dyn g (b.vtable, b.value)).called b.value) (λ b. (goal.Pass-dyn g (b.vtable, b.value)).gives b.value) (λ b. (goal.Pass-dyn g (b.vtable, b.value)).count b.value) c.args.passes.now.items in
    shown-after (IsReady (text 0) (text 1) (text 2) ps) (λ r (p : Result (List Sight) Refusal). p ≡ Ok (sights (driven r))) (ready_view c.in_ok-ready.ready) (g.V.Watch.seen c.args.watch.now) (g.V.Watch.seen c.drive_ready.new.watch) c.drive_ready.result
    c.in_ok-ready.ensures.ready c.drive_ready.ensures.shown
