use Rattle.std.proofs.Common.{arith}
use Rattle.std.proofs.lemmas.Grind.{common_steps, elements}
use Rattle.lucid_inline.proofs.program.copy_memops.Goals as goal

pub loop-memop-preserved : goal.loop-memop-preserved
loop-memop-preserved c = grind (arith, common_steps)

pub returns : goal.returns
returns c = grind (arith, elements)
