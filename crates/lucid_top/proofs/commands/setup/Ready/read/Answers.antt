use Rattle.std.proofs.Common.{◌≡◌, List, ℕ, Ok, Err, Result, rules, subst}
use Rattle.lucid_top_fit.specs.Passes.{passes_view}
use Rattle.lucid_top_program.specs.Settings.{IsScenario}
use Rattle.lucid_top_words.specs.declared.refusal.Refusal.{Refusal}
use Rattle.lucid_top_words.specs.Files.{texts_in}
use Rattle.lucid_top_words.specs.Outcome.{Declines, IsTheAnswer}
use Rattle.lucid_top_words.specs.Words.{word_at}
use Rattle.lucid_top_words.proofs.Parts.{Declines-first, Prepares-err, Prepares-ok, one-text}
use Rattle.lucid_top.specs.declared.commands.setup.Pipes.{Pipes}
use Rattle.lucid_top.specs.declared.commands.setup.Ready.{Ready}
use Rattle.lucid_top.specs.Held.{pipes_view, ready_view}
use Rattle.lucid_top.specs.Pipes as seen
use Rattle.lucid_top.proofs.Runs.{ran-err, ran-ok}
use Rattle.lucid_top.proofs.commands.setup.Ready.read.Goals as goal

pub returns-in_err-pipes-clause-ready : goal.returns-in_err-pipes-clause-ready
returns-in_err-pipes-clause-ready g c =
    let text = word_at (texts_in c.args.texts.now) in
    let ps = passes_view (λ b. (goal.Pass-dyn g (b.vtable, b.value)).called b.value) (λ b. (goal.Pass-dyn g (b.vtable, b.value)).gives b.value) (λ b. (goal.Pass-dyn g (b.vtable, b.value)).count b.value) c.args.passes.now.items in
    Prepares-err (seen.IsPiped (text 0) (text 1) ps) (seen.IsSet (text 2)) ready_view c.in_err-pipes.field-0.0 c.from_residual.result (search rules) c.in_err-pipes.ensures.pipes

pub returns-in_err-pipes-clause-ran : goal.returns-in_err-pipes-clause-ran
returns-in_err-pipes-clause-ran g c = ran-err Pipes Ready _ _ _ c.in_err-pipes.field-0.0 c.from_residual.result c.in_err-pipes.ensures.ran (search rules)

pub returns-in-Ok-clause-ready : goal.returns-in-Ok-clause-ready
returns-in-Ok-clause-ready g c =
    let text = word_at (texts_in c.args.texts.now) in
    let pipes = pipes_view c.in_ok-pipes.pipes in
    let ps = passes_view (λ b. (goal.Pass-dyn g (b.vtable, b.value)).called b.value) (λ b. (goal.Pass-dyn g (b.vtable, b.value)).gives b.value) (λ b. (goal.Pass-dyn g (b.vtable, b.value)).count b.value) c.args.passes.now.items in
    Prepares-ok {Q = Ready} (seen.IsPiped (text 0) (text 1) ps) (seen.IsSet (text 2)) ready_view pipes (Ok (record { pipes = c.in_ok-pipes.pipes; scene = c.in-Ok.scene })) c.in_ok-pipes.ensures.pipes
    (Prepares-ok {Q = Ready} (IsScenario pipes.under.core (text 2)) (λ scene (p : Result seen.Ready Refusal). p ≡ Ok (seen.ready pipes scene)) ready_view
    c.in-Ok.scene (Ok (record { pipes = c.in_ok-pipes.pipes; scene = c.in-Ok.scene }))
    (subst (λ (t : List ℕ). IsTheAnswer (IsScenario pipes.under.core t) (Ok c.in-Ok.scene)) c.text_at.ensures c.in-Ok.ensures.scene) (one-text (seen.ready pipes c.in-Ok.scene)))

pub returns-in-Ok-clause-ran : goal.returns-in-Ok-clause-ran
returns-in-Ok-clause-ran g c = ran-ok Pipes Ready _ _ _ c.in_ok-pipes.pipes (Ok (record { pipes = c.in_ok-pipes.pipes; scene = c.in-Ok.scene })) c.in_ok-pipes.ensures.ran

pub returns-in-Err-clause-ready : goal.returns-in-Err-clause-ready
returns-in-Err-clause-ready g c =
    let text = word_at (texts_in c.args.texts.now) in
    let pipes = pipes_view c.in_ok-pipes.pipes in
    let ps = passes_view (λ b. (goal.Pass-dyn g (b.vtable, b.value)).called b.value) (λ b. (goal.Pass-dyn g (b.vtable, b.value)).gives b.value) (λ b. (goal.Pass-dyn g (b.vtable, b.value)).count b.value) c.args.passes.now.items in
    Prepares-ok {Q = Ready} (seen.IsPiped (text 0) (text 1) ps) (seen.IsSet (text 2)) ready_view pipes (Err c.in-Err.refusal) c.in_ok-pipes.ensures.pipes
    (Declines-first (IsScenario pipes.under.core (text 2)) (λ scene (p : Result seen.Ready Refusal). p ≡ Ok (seen.ready pipes scene)) c.in-Err.refusal
    (subst (λ (t : List ℕ). Declines (IsScenario pipes.under.core t) c.in-Err.refusal) c.text_at.ensures c.in-Err.ensures.scene))

pub returns-in-Err-clause-ran : goal.returns-in-Err-clause-ran
returns-in-Err-clause-ran g c = ran-ok Pipes Ready _ _ _ c.in_ok-pipes.pipes (Err c.in-Err.refusal) c.in_ok-pipes.ensures.ran
