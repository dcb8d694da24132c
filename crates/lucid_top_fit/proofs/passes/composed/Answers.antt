use Rattle.std.proofs.Common.{◌∙◌, inr, ap, length, refl, rules}
use Rattle.lucid_normal_spec.specs.Program.{translate}
use Rattle.lucid_top_fit.specs.declared.passes.Composition.{Composition}
use Rattle.lucid_top_fit.specs.Fit.{IsComposed, RunsOn, made_view}
use Rattle.lucid_top_fit.specs.Passes.{passes_view}
use Rattle.lucid_top_fit.proofs.Composing.{made-as, made-is, none-composed}
use Rattle.lucid_top_fit.proofs.Runs.{declined, none-ran, ran-all, ran-some, some-ran}
use Rattle.lucid_top_fit.proofs.passes.composed.Goals as goal

pub returns-in_err-flat-clause-composed : goal.returns-in_err-flat-clause-composed
returns-in_err-flat-clause-composed g c =
    let seen = passes_view (λ b. (goal.Pass-dyn g (b.vtable, b.value)).called b.value) (λ b. (goal.Pass-dyn g (b.vtable, b.value)).gives b.value)
    (λ b. (goal.Pass-dyn g (b.vtable, b.value)).count b.value) c.args.passes.now.items in
    declined (IsComposed c.args.core.now seen) made_view c.in_err-flat.field-0.0 c.from_residual.result (search rules) (c.in_err-flat.ensures.refused seen)

pub returns-in_err-flat-clause-ran : goal.returns-in_err-flat-clause-ran
returns-in_err-flat-clause-ran g c =
    let seen = passes_view (λ b. (goal.Pass-dyn g (b.vtable, b.value)).called b.value) (λ b. (goal.Pass-dyn g (b.vtable, b.value)).gives b.value)
    (λ b. (goal.Pass-dyn g (b.vtable, b.value)).count b.value) c.args.passes.now.items in
    none-ran Composition (RunsOn c.args.core.now) seen c.in_err-flat.field-0.0 c.from_residual.result (search rules)
    (none-composed Composition c.args.core.now seen c.in_err-flat.field-0.0 (c.in_err-flat.ensures.refused seen))

pub returns-in_err-told-clause-ran : goal.returns-in_err-told-clause-ran
returns-in_err-told-clause-ran g c =
    let stopped = c.in_err-told.ensures.stopped in
    some-ran Composition (RunsOn c.args.core.now) (passes_view (λ b. (goal.Pass-dyn g (b.vtable, b.value)).called b.value) (λ b. (goal.Pass-dyn g (b.vtable, b.value)).gives b.value) (λ b. (goal.Pass-dyn g (b.vtable, b.value)).count b.value) c.args.passes.now.items) (passes_view (λ b. (goal.Pass-dyn g (b.vtable, b.value)).called b.value) (λ b. (goal.Pass-dyn g (b.vtable, b.value)).gives b.value) (λ b. (goal.Pass-dyn g (b.vtable, b.value)).count b.value) c.run_passes_told.new.passes.items)
    c.in_ok-code.code stopped.0 c.from_residual-in_err-told.result (search rules)
    (c.in_ok-flat.ensures.fits, c.in_ok-code.ensures.code ∙ ap translate c.in_ok-flat.ensures.flat)
    (ran-some _ _ _ c.args.passes.now.items c.run_passes_told.new.passes.items c.in_ok-code.code stopped.0 c.in_err-told.ensures.names c.in_err-told.ensures.same stopped.2)

pub returns-clause-composed : goal.returns-clause-composed
returns-clause-composed g c =
    let told = c.in_ok-told.told in
    made-is c.args.core.now (passes_view (λ b. (goal.Pass-dyn g (b.vtable, b.value)).called b.value) (λ b. (goal.Pass-dyn g (b.vtable, b.value)).gives b.value) (λ b. (goal.Pass-dyn g (b.vtable, b.value)).count b.value) c.args.passes.now.items) (record { code = told.0; gone = told.1.items }) c.in_ok-flat.ensures.fits
    (made-as _ _ _ c.args.passes.now.items c.args.core.now c.in_ok-code.code told.0 told.1.items
    (c.in_ok-code.ensures.code ∙ ap translate c.in_ok-flat.ensures.flat) c.in_ok-told.ensures.gives c.in_ok-told.ensures.told)

pub returns-clause-ran : goal.returns-clause-ran
returns-clause-ran g c =
    let ran = ran-all _ _ _ c.args.passes.now.items c.run_passes_told.new.passes.items c.in_ok-code.code
    c.in_ok-told.ensures.names c.in_ok-told.ensures.same c.in_ok-told.ensures.counts in
    inr (
      c.in_ok-code.code,
      (c.in_ok-flat.ensures.fits, c.in_ok-code.ensures.code ∙ ap translate c.in_ok-flat.ensures.flat),
      length (passes_view (λ b. (goal.Pass-dyn g (b.vtable, b.value)).called b.value) (λ b. (goal.Pass-dyn g (b.vtable, b.value)).gives b.value) (λ b. (goal.Pass-dyn g (b.vtable, b.value)).count b.value) c.args.passes.now.items),
      ran,
      inr refl,
    )
