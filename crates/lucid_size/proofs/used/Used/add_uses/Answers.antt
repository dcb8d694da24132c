use Rattle.std.proofs.lemmas.Grind.{common_steps}
use Rattle.std.proofs.Common.{◌∙◌, ap, sym, arith}
use Rattle.lucid_size.specs.Search.{with_all}
use Rattle.lucid_size.specs.Used.{uses}
use Rattle.lucid_size.proofs.InText.{past}
use Rattle.lucid_size.proofs.used.Used.add_uses.Goals as goal

pub add_use-requires : goal.add_use-requires
add_use-requires c = c.loop-step.invariant.sees

pub returns-clause-sees : goal.returns-clause-sees
returns-clause-sees c = c.loop-step.invariant.sees

pub returns-clause-added : goal.returns-clause-added
returns-clause-added c =
    ap (λ l. with_all c.loop-step.self.found.items (uses c.args.width l)) (sym (past c.args.steps.now c.loop-step.step-index c.loop-step-test.false))
    ∙ c.loop-step.invariant.left

pub loop-step-preserved : goal.loop-step-preserved
loop-step-preserved c = grind (arith, common_steps)
