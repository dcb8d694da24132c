use Rattle.std.proofs.Common.{arith}
use Rattle.std.proofs.lemmas.Grind.{common_steps}
use Rattle.lucid_top_program.proofs.order.fun_line.Goals as goal

pub returns-then-f-decl : goal.returns-then-f-decl
returns-then-f-decl c = grind (arith, common_steps)

pub loop-f-preserved : goal.loop-f-preserved
loop-f-preserved c = grind (arith, common_steps)

pub returns : goal.returns
returns c = grind (arith, common_steps)
