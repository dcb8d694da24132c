use Rattle.std.proofs.Common.{arith}
use Rattle.std.proofs.lemmas.Grind.{common_steps}
use Rattle.lucid_stages.proofs.node_tables.node_table.Goals as goal

pub returns-in_ok-new-in-None-clause-few : goal.returns-in_ok-new-in-None-clause-few
returns-in_ok-new-in-None-clause-few c = grind (arith, common_steps)

pub returns-in_ok-new-in-None-clause-rows : goal.returns-in_ok-new-in-None-clause-rows
returns-in_ok-new-in-None-clause-rows c = grind (arith, common_steps)
