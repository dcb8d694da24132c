use Rattle.std.proofs.Common.{◌≡◌, Ok, rules}
use Rattle.lucid_snap.specs.Log.{snap_log}
use Rattle.lucid_top_fit.specs.Passes.{passes_view}
use Rattle.lucid_top_words.specs.Files.{texts_in}
use Rattle.lucid_top_words.specs.Outcome.{Outcome}
use Rattle.lucid_top_words.specs.Words.{word_at}
use Rattle.lucid_top_words.specs.Writing.{anywhere}
use Rattle.lucid_top_words.proofs.Seen.{untouched}
use Rattle.lucid_top.specs.declared.commands.setup.Ready.{Ready}
use Rattle.lucid_top.specs.Drive.{driven}
use Rattle.lucid_top.specs.Pipes.{IsReady}
use Rattle.lucid_top.proofs.Runs.{declined, performs-after, ran-err, ran-ok}
use Rattle.lucid_top.proofs.commands.snap.snap.Goals as goal

pub returns-in_err-ready-clause-performs : goal.returns-in_err-ready-clause-performs
returns-in_err-ready-clause-performs g c =
    let text = word_at (texts_in c.args.texts.now) in
    let ps = passes_view (λ b. (goal.Pass-dyn g (b.vtable, b.value)).called b.value) (λ b. (goal.Pass-dyn g (b.vtable, b.value)).gives b.value) (λ b. (goal.Pass-dyn g (b.vtable, b.value)).count b.value) c.args.passes.now.items in
    declined g.W.Sink.written g.W.Sink.faults c.args.out.now c.args.out.now anywhere (IsReady (text 0) (text 1) (text 2) ps) (λ r (p : Outcome). p ≡ Ok (snap_log (driven r) c.args.after))
    c.in_err-ready.field-0.0 c.from_residual.result c.in_err-ready.ensures.ready (search rules) untouched

pub returns-in_err-ready-clause-ran : goal.returns-in_err-ready-clause-ran
returns-in_err-ready-clause-ran g c = ran-err Ready (Unit {0}) _ _ _ c.in_err-ready.field-0.0 c.from_residual.result c.in_err-ready.ensures.ran (search rules)

pub returns-clause-performs : goal.returns-clause-performs
returns-clause-performs g c =
    let text = word_at (texts_in c.args.texts.now) in
    let ps = passes_view (λ b. (goal.Pass-dyn g (b.vtable, b.value)).called b.value) (λ b. (goal.Pass-dyn g (b.vtable, b.value)).gives b.value) (λ b. (goal.Pass-dyn g (b.vtable, b.value)).count b.value) c.args.passes.now.items in
    performs-after g.W.Sink.written g.W.Sink.faults c.args.out.now c.snap_ready-ended.new.out anywhere (IsReady (text 0) (text 1) (text 2) ps) (λ r (p : Outcome). p ≡ Ok (snap_log (driven r) c.args.after))
    c.in_ok-ready.ensures.ready (λ begun stops. stops) c.snap_ready-ended.result c.snap_ready-ended.ensures

pub returns-clause-ran : goal.returns-clause-ran
returns-clause-ran g c = ran-ok Ready (Unit {0}) _ _ _ c.in_ok-ready.ready c.snap_ready-ended.result c.in_ok-ready.ensures.ran
