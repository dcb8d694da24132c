use Rattle.std.proofs.Common.{arith}
use Rattle.std.proofs.lemmas.Grind.{common_steps}
use Rattle.lucid_base.proofs.cells.Cells.set_by.Goals as goal

pub returns-then-array-len-clause-held : goal.returns-then-array-len-clause-held
returns-then-array-len-clause-held c = grind (arith, common_steps)

pub returns-then-array-len-clause-stored : goal.returns-then-array-len-clause-stored
returns-then-array-len-clause-stored c = grind (arith, common_steps)

pub returns-else-array-len-clause-held : goal.returns-else-array-len-clause-held
returns-else-array-len-clause-held c = grind (arith, common_steps)

pub returns-else-array-len-clause-stored : goal.returns-else-array-len-clause-stored
returns-else-array-len-clause-stored c = grind (arith, common_steps)
