use Rattle.std.proofs.Common.{arith}
use Rattle.std.proofs.lemmas.Grind.{common_steps}
use Rattle.lucid_constraints.proofs.marks.mark.Goals as goal

pub returns-then-n-len-clause-notes : goal.returns-then-n-len-clause-notes
returns-then-n-len-clause-notes c = grind (arith, common_steps)

pub returns-else-n-len-clause-notes : goal.returns-else-n-len-clause-notes
returns-else-n-len-clause-notes c = grind (arith, common_steps)

pub returns-in_default-clause-notes : goal.returns-in_default-clause-notes
returns-in_default-clause-notes c = grind (arith, common_steps)
