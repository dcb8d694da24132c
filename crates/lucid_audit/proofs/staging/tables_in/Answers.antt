use Rattle.std.proofs.Common.{arith}
use Rattle.std.proofs.lemmas.Grind.{common_steps}
use Rattle.lucid_audit.proofs.staging.tables_in.Goals as goal

pub overflow_add-seat : goal.overflow_add-seat
overflow_add-seat c = grind (arith, common_steps)

pub loop-seat-preserved : goal.loop-seat-preserved
loop-seat-preserved c = grind (arith, common_steps)

pub returns : goal.returns
returns c = grind (arith, common_steps)
