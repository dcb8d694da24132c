use Rattle.std.proofs.Common.{List, ℕ, rules, subst}
use Rattle.lucid_top_fit.specs.Passes.{passes_view}
use Rattle.lucid_top_words.specs.Files.{texts_in}
use Rattle.lucid_top_words.specs.Outcome.{Prepares}
use Rattle.lucid_top_words.specs.Words.{word_at}
use Rattle.lucid_top_words.proofs.Parts.{Prepares-err, Prepares-ok}
use Rattle.lucid_top.specs.declared.commands.setup.Measured.{Measured}
use Rattle.lucid_top.specs.declared.commands.setup.Ready.{Ready}
use Rattle.lucid_top.specs.Held.{measured_view, ready_view}
use Rattle.lucid_top.specs.Placed.{IsMeasured, IsReadyOn}
use Rattle.lucid_top.proofs.Runs.{ran-err, ran-ok}
use Rattle.lucid_top.proofs.commands.run_placed.prepare.Goals as goal

pub returns-in_err-measured-clause-ready : goal.returns-in_err-measured-clause-ready
returns-in_err-measured-clause-ready g c =
    let text = word_at (texts_in c.args.texts.now) in
    let ps = passes_view (λ b. (goal.Pass-dyn g (b.vtable, b.value)).called b.value) (λ b. (goal.Pass-dyn g (b.vtable, b.value)).gives b.value) (λ b. (goal.Pass-dyn g (b.vtable, b.value)).count b.value) c.args.passes.now.items in
    Prepares-err (IsMeasured (text 0) (text 1) ps) (IsReadyOn (text 2) (text 3)) ready_view c.in_err-measured.field-0.0 c.from_residual.result (search rules) c.in_err-measured.ensures.measured

pub returns-in_err-measured-clause-ran : goal.returns-in_err-measured-clause-ran
returns-in_err-measured-clause-ran g c = ran-err Measured Ready _ _ _ c.in_err-measured.field-0.0 c.from_residual.result c.in_err-measured.ensures.ran (search rules)

pub returns-clause-ready : goal.returns-clause-ready
returns-clause-ready g c =
    let text = word_at (texts_in c.args.texts.now) in
    let m = measured_view c.in_ok-measured.measured in
    let ps = passes_view (λ b. (goal.Pass-dyn g (b.vtable, b.value)).called b.value) (λ b. (goal.Pass-dyn g (b.vtable, b.value)).gives b.value) (λ b. (goal.Pass-dyn g (b.vtable, b.value)).count b.value) c.args.passes.now.items in
    Prepares-ok (IsMeasured (text 0) (text 1) ps) (IsReadyOn (text 2) (text 3)) ready_view m c.with_scenario.result c.in_ok-measured.ensures.measured
    (subst (λ (t : List ℕ). Prepares (IsReadyOn t (text 3) m) ready_view c.with_scenario.result) c.text_at.ensures
    (subst (λ (q : List ℕ). Prepares (IsReadyOn c.text_at.result.now q m) ready_view c.with_scenario.result) c.text_at-2.ensures c.with_scenario.ensures.ready))

pub returns-clause-ran : goal.returns-clause-ran
returns-clause-ran g c = ran-ok Measured Ready _ _ _ c.in_ok-measured.measured c.with_scenario.result c.in_ok-measured.ensures.ran
