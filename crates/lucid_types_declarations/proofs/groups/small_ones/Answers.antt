use Rattle.std.proofs.Common.{arith}
use Rattle.std.proofs.lemmas.Grind.{common_steps}
use Rattle.lucid_types_declarations.proofs.groups.small_ones.Goals as goal

pub returns-then-member-ge64 : goal.returns-then-member-ge64
returns-then-member-ge64 c = grind (arith, common_steps)

pub same-small-in-loop-member : goal.same-small-in-loop-member
same-small-in-loop-member c = grind (arith, common_steps)

pub loop-member-preserved : goal.loop-member-preserved
loop-member-preserved c = grind (arith, common_steps)

pub returns : goal.returns
returns c = grind (arith, common_steps)
