use Rattle.std.proofs.Common.{arith}
use Rattle.std.proofs.lemmas.Grind.{common_steps}
use Rattle.lucid_conf.proofs.links.are_linked.Goals as goal

pub returns-then-l-b-clause-value : goal.returns-then-l-b-clause-value
returns-then-l-b-clause-value c = grind (arith, common_steps)

pub loop-l-preserved : goal.loop-l-preserved
loop-l-preserved c = grind (arith, common_steps)

pub returns-clause-value : goal.returns-clause-value
returns-clause-value c = grind (arith, common_steps)
