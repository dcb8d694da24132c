use Rattle.std.proofs.Common.{arith}
use Rattle.std.proofs.lemmas.Grind.{common_steps}
use Rattle.lucid_effects.proofs.walk.add_before.Goals as goal

pub loop-atom-preserved : goal.loop-atom-preserved
loop-atom-preserved g c = grind (arith, common_steps)

pub returns-clause-needs : goal.returns-clause-needs
returns-clause-needs g c = grind (arith, common_steps)
