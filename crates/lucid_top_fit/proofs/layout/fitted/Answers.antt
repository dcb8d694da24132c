use Rattle.std.proofs.Common.{rules}
use Rattle.lucid_top_fit.specs.declared.layout.Fitting.{Fitting}
use Rattle.lucid_top_fit.specs.declared.passes.Composition.{Composition}
use Rattle.lucid_top_fit.specs.Fit.{RunsOn, made_view}
use Rattle.lucid_top_fit.specs.Passes.{passes_view}
use Rattle.lucid_top_fit.proofs.Joined.{fitted-is, refused-first, refused-last}
use Rattle.lucid_top_fit.proofs.Runs.{ran-ok}
use Rattle.lucid_top_fit.proofs.layout.fitted.Goals as goal

pub returns-in_err-made-clause-fitted : goal.returns-in_err-made-clause-fitted
returns-in_err-made-clause-fitted g c =
    let seen = passes_view (λ b. (goal.Pass-dyn g (b.vtable, b.value)).called b.value) (λ b. (goal.Pass-dyn g (b.vtable, b.value)).gives b.value)
    (λ b. (goal.Pass-dyn g (b.vtable, b.value)).count b.value) c.args.passes.now.items in
    refused-first c.args.core.now c.args.limits.now seen c.in_err-made.field-0.0 c.from_residual.result (search rules) c.in_err-made.ensures.composed

pub returns-in_err-placed-clause-fitted : goal.returns-in_err-placed-clause-fitted
returns-in_err-placed-clause-fitted g c =
    let seen = passes_view (λ b. (goal.Pass-dyn g (b.vtable, b.value)).called b.value) (λ b. (goal.Pass-dyn g (b.vtable, b.value)).gives b.value)
    (λ b. (goal.Pass-dyn g (b.vtable, b.value)).count b.value) c.args.passes.now.items in
    refused-last c.args.core.now c.args.limits.now seen (made_view c.in_ok-made.made) c.in_err-placed.field-0.0 c.from_residual-in_err-placed.result
    c.in_ok-made.ensures.composed (search rules) c.in_err-placed.ensures.placed

pub returns-in_err-placed-clause-ran : goal.returns-in_err-placed-clause-ran
returns-in_err-placed-clause-ran g c =
    ran-ok Composition Fitting (RunsOn c.args.core.now) (passes_view (λ b. (goal.Pass-dyn g (b.vtable, b.value)).called b.value) (λ b. (goal.Pass-dyn g (b.vtable, b.value)).gives b.value) (λ b. (goal.Pass-dyn g (b.vtable, b.value)).count b.value) c.args.passes.now.items) (passes_view (λ b. (goal.Pass-dyn g (b.vtable, b.value)).called b.value) (λ b. (goal.Pass-dyn g (b.vtable, b.value)).gives b.value) (λ b. (goal.Pass-dyn g (b.vtable, b.value)).count b.value) c.composed.new.passes.items)
    c.in_ok-made.made c.from_residual-in_err-placed.result c.in_ok-made.ensures.ran

pub returns-clause-fitted : goal.returns-clause-fitted
returns-clause-fitted g c =
    let seen = passes_view (λ b. (goal.Pass-dyn g (b.vtable, b.value)).called b.value) (λ b. (goal.Pass-dyn g (b.vtable, b.value)).gives b.value)
    (λ b. (goal.Pass-dyn g (b.vtable, b.value)).count b.value) c.args.passes.now.items in
    fitted-is c.args.core.now c.args.limits.now seen (made_view c.in_ok-made.made) c.in_ok-placed.placed c.in_ok-made.ensures.composed c.in_ok-placed.ensures.placed
