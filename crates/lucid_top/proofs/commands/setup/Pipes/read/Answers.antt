use Rattle.std.proofs.Common.{◌≡◌, Ok, Err, Result, refl, rules}
use Rattle.lucid_top_fit.specs.declared.layout.Fitting.{Fitting}
use Rattle.lucid_top_fit.specs.Fit.{IsFitted, fit_view}
use Rattle.lucid_top_fit.specs.Passes.{passes_view}
use Rattle.lucid_top_words.specs.declared.refusal.Refusal.{Refusal}
use Rattle.lucid_top_words.specs.Files.{texts_in}
use Rattle.lucid_top_words.specs.Words.{word_at}
use Rattle.lucid_top_words.proofs.Parts.{Declines-first, Prepares-err, Prepares-ok, one-text}
use Rattle.lucid_top.specs.declared.commands.setup.Pipes.{Pipes}
use Rattle.lucid_top.specs.Held.{pipes_view, target_view}
use Rattle.lucid_top.specs.Pipes as seen
use Rattle.lucid_top.proofs.Runs.{none-ran, ran-err, ran-ok, ran-under}
use Rattle.lucid_top.proofs.commands.setup.Pipes.read.Goals as goal

pub returns-in_err-target-clause-pipes : goal.returns-in_err-target-clause-pipes
returns-in_err-target-clause-pipes g c =
    let text = word_at (texts_in c.args.texts.now) in
    let ps = passes_view (λ b. (goal.Pass-dyn g (b.vtable, b.value)).called b.value) (λ b. (goal.Pass-dyn g (b.vtable, b.value)).gives b.value) (λ b. (goal.Pass-dyn g (b.vtable, b.value)).count b.value) c.args.passes.now.items in
    Prepares-err (seen.IsTarget (text 0) (text 1)) (seen.IsPlacedIn ps) pipes_view c.in_err-target.field-0.0 c.from_residual.result (search rules) c.in_err-target.ensures.target

pub returns-in_err-target-clause-ran : goal.returns-in_err-target-clause-ran
returns-in_err-target-clause-ran g c =
    let text = word_at (texts_in c.args.texts.now) in
    none-ran Pipes (text 0) (text 1) _ c.in_err-target.field-0.0 c.from_residual.result c.in_err-target.ensures.target (search rules)

pub returns-in-Ok-clause-pipes : goal.returns-in-Ok-clause-pipes
returns-in-Ok-clause-pipes g c =
    let text = word_at (texts_in c.args.texts.now) in
    let under = target_view c.in_ok-target.target in
    let ps = passes_view (λ b. (goal.Pass-dyn g (b.vtable, b.value)).called b.value) (λ b. (goal.Pass-dyn g (b.vtable, b.value)).gives b.value) (λ b. (goal.Pass-dyn g (b.vtable, b.value)).count b.value) c.args.passes.now.items in
    Prepares-ok {Q = Pipes} (seen.IsTarget (text 0) (text 1)) (seen.IsPlacedIn ps) pipes_view under (Ok (record { target = c.in_ok-target.target; fitted = c.in-Ok.fitted })) c.in_ok-target.ensures.target
    (Prepares-ok {Q = Pipes} (IsFitted under.core under.limits ps) (λ fitted (p : Result seen.Piped Refusal). p ≡ Ok (seen.piped under fitted)) pipes_view
    (fit_view c.in-Ok.fitted) (Ok (record { target = c.in_ok-target.target; fitted = c.in-Ok.fitted })) c.in-Ok.ensures.fitted (one-text (seen.piped under (fit_view c.in-Ok.fitted))))

pub returns-in-Ok-clause-ran : goal.returns-in-Ok-clause-ran
returns-in-Ok-clause-ran g c =
    let text = word_at (texts_in c.args.texts.now) in
    let end : Result Pipes Refusal = Ok (record { target = c.in_ok-target.target; fitted = c.in-Ok.fitted }) in
    ran-under Pipes (text 0) (text 1) (target_view c.in_ok-target.target) _ _ end c.in_ok-target.ensures.target
    (ran-ok Fitting Pipes _ _ _ c.in-Ok.fitted end c.in-Ok.ensures.ran)

pub returns-in-Err-clause-pipes : goal.returns-in-Err-clause-pipes
returns-in-Err-clause-pipes g c =
    let text = word_at (texts_in c.args.texts.now) in
    let under = target_view c.in_ok-target.target in
    let ps = passes_view (λ b. (goal.Pass-dyn g (b.vtable, b.value)).called b.value) (λ b. (goal.Pass-dyn g (b.vtable, b.value)).gives b.value) (λ b. (goal.Pass-dyn g (b.vtable, b.value)).count b.value) c.args.passes.now.items in
    Prepares-ok {Q = Pipes} (seen.IsTarget (text 0) (text 1)) (seen.IsPlacedIn ps) pipes_view under (Err c.in-Err.refusal) c.in_ok-target.ensures.target
    (Declines-first (IsFitted under.core under.limits ps) (λ fitted (p : Result seen.Piped Refusal). p ≡ Ok (seen.piped under fitted)) c.in-Err.refusal c.in-Err.ensures.fitted)

pub returns-in-Err-clause-ran : goal.returns-in-Err-clause-ran
returns-in-Err-clause-ran g c =
    let text = word_at (texts_in c.args.texts.now) in
    ran-under Pipes (text 0) (text 1) (target_view c.in_ok-target.target) _ _ (Err c.in-Err.refusal) c.in_ok-target.ensures.target
    (ran-err Fitting Pipes _ _ _ c.in-Err.refusal (Err c.in-Err.refusal) c.in-Err.ensures.ran refl)
