use Rattle.std.proofs.Common.{arith}
use Rattle.std.proofs.lemmas.Grind.{common_steps}
use Rattle.lucid_size.proofs.Plain.{begun}
use Rattle.lucid_size.proofs.templates.has_template.Goals as goal

pub returns-then-begins_template-clause-some : goal.returns-then-begins_template-clause-some
returns-then-begins_template-clause-some c = λ _ none. begun c.args.tokens.now c.loop-at.at c.loop-at.opened c.if-opened-eq0.true c.if-begins_template.ensures c.loop-at.invariant.left none

pub loop-at-preserved : goal.loop-at-preserved
loop-at-preserved c = grind (arith, common_steps)

pub returns-clause-none : goal.returns-clause-none
returns-clause-none c = grind (arith, common_steps)
