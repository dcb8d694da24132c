use Rattle.std.proofs.Common.{arith}
use Rattle.std.proofs.lemmas.Grind.{common_steps, moves}
use Rattle.lucid_inline.proofs.bodies.run_tasks.Goals as goal

pub loop-preserved : goal.loop-preserved
loop-preserved c = grind (arith, moves)

pub returns-in_default : goal.returns-in_default
returns-in_default c = grind (arith, common_steps)
