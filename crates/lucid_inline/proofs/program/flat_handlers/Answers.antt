use Rattle.std.proofs.Common.{arith}
use Rattle.std.proofs.lemmas.Grind.{common_steps, elements}
use Rattle.lucid_inline.proofs.program.flat_handlers.Goals as goal

pub loop-handler-preserved : goal.loop-handler-preserved
loop-handler-preserved c = grind (arith, common_steps)

pub returns : goal.returns
returns c = grind (arith, elements)
