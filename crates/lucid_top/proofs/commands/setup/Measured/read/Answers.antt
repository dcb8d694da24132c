use Rattle.std.proofs.Common.{Err, refl, rules}
use Rattle.lucid_top_fit.specs.declared.passes.Composition.{Composition}
use Rattle.lucid_top_fit.specs.Fit.{IsComposed, made_view}
use Rattle.lucid_top_fit.specs.Passes.{passes_view}
use Rattle.lucid_top_words.specs.Files.{texts_in}
use Rattle.lucid_top_words.specs.Words.{word_at}
use Rattle.lucid_top_words.proofs.Parts.{Declines-first, Prepares-err, Prepares-ok}
use Rattle.lucid_top.specs.declared.commands.setup.Measured.{Measured}
use Rattle.lucid_top.specs.Held.{measured_view, target_view}
use Rattle.lucid_top.specs.Pipes.{IsTarget}
use Rattle.lucid_top.specs.Placed.{IsMeasuredAs, IsMeasuredIn}
use Rattle.lucid_top.proofs.Runs.{none-ran, ran-err, ran-ok, ran-under}
use Rattle.lucid_top.proofs.commands.setup.Measured.read.Goals as goal

pub returns-in_err-target-clause-measured : goal.returns-in_err-target-clause-measured
returns-in_err-target-clause-measured g c =
    let text = word_at (texts_in c.args.texts.now) in
    let ps = passes_view (λ b. (goal.Pass-dyn g (b.vtable, b.value)).called b.value) (λ b. (goal.Pass-dyn g (b.vtable, b.value)).gives b.value) (λ b. (goal.Pass-dyn g (b.vtable, b.value)).count b.value) c.args.passes.now.items in
    Prepares-err (IsTarget (text 0) (text 1)) (IsMeasuredIn ps) measured_view c.in_err-target.field-0.0 c.from_residual.result (search rules) c.in_err-target.ensures.target

pub returns-in_err-target-clause-ran : goal.returns-in_err-target-clause-ran
returns-in_err-target-clause-ran g c =
    let text = word_at (texts_in c.args.texts.now) in
    none-ran Measured (text 0) (text 1) _ c.in_err-target.field-0.0 c.from_residual.result c.in_err-target.ensures.target (search rules)

pub returns-in-Ok-clause-measured : goal.returns-in-Ok-clause-measured
returns-in-Ok-clause-measured g c =
    let text = word_at (texts_in c.args.texts.now) in
    let under = target_view c.in_ok-target.target in
    let ps = passes_view (λ b. (goal.Pass-dyn g (b.vtable, b.value)).called b.value) (λ b. (goal.Pass-dyn g (b.vtable, b.value)).gives b.value) (λ b. (goal.Pass-dyn g (b.vtable, b.value)).count b.value) c.args.passes.now.items in
    Prepares-ok (IsTarget (text 0) (text 1)) (IsMeasuredIn ps) measured_view under c.measured_as.result c.in_ok-target.ensures.target
    (Prepares-ok (IsComposed under.core ps) (IsMeasuredAs under) measured_view (made_view c.in-Ok.made) c.measured_as.result c.in-Ok.ensures.composed c.measured_as.ensures.measured)

pub returns-in-Ok-clause-ran : goal.returns-in-Ok-clause-ran
returns-in-Ok-clause-ran g c =
    let text = word_at (texts_in c.args.texts.now) in
    ran-under Measured (text 0) (text 1) (target_view c.in_ok-target.target) _ _ c.measured_as.result c.in_ok-target.ensures.target
    (ran-ok Composition Measured _ _ _ c.in-Ok.made c.measured_as.result c.in-Ok.ensures.ran)

pub returns-in-Err-clause-measured : goal.returns-in-Err-clause-measured
returns-in-Err-clause-measured g c =
    let text = word_at (texts_in c.args.texts.now) in
    let under = target_view c.in_ok-target.target in
    let ps = passes_view (λ b. (goal.Pass-dyn g (b.vtable, b.value)).called b.value) (λ b. (goal.Pass-dyn g (b.vtable, b.value)).gives b.value) (λ b. (goal.Pass-dyn g (b.vtable, b.value)).count b.value) c.args.passes.now.items in
    Prepares-ok (IsTarget (text 0) (text 1)) (IsMeasuredIn ps) measured_view under (Err c.in-Err.refusal) c.in_ok-target.ensures.target
    (Declines-first (IsComposed under.core ps) (IsMeasuredAs under) c.in-Err.refusal c.in-Err.ensures.composed)

pub returns-in-Err-clause-ran : goal.returns-in-Err-clause-ran
returns-in-Err-clause-ran g c =
    let text = word_at (texts_in c.args.texts.now) in
    ran-under Measured (text 0) (text 1) (target_view c.in_ok-target.target) _ _ (Err c.in-Err.refusal) c.in_ok-target.ensures.target
    (ran-err Composition Measured _ _ _ c.in-Err.refusal (Err c.in-Err.refusal) c.in-Err.ensures.ran refl)
