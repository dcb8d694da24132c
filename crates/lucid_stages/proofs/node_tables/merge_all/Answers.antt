use Rattle.std.proofs.Common.{arith}
use Rattle.std.proofs.lemmas.Grind.{common_steps}
use Rattle.lucid_stages.proofs.node_tables.merge_all.Goals as goal

pub merge_next-requires : goal.merge_next-requires
merge_next-requires c = grind (arith, common_steps)

pub returns-in-None-clause-none : goal.returns-in-None-clause-none
returns-in-None-clause-none c = grind (arith, common_steps)

pub loop-op-preserved : goal.loop-op-preserved
loop-op-preserved c = grind (arith, common_steps)

pub returns-clause-few : goal.returns-clause-few
returns-clause-few c = grind (arith, common_steps)

pub returns-clause-rows : goal.returns-clause-rows
returns-clause-rows c = grind (arith, common_steps)
