use Rattle.std.proofs.Common.{arith}
use Rattle.std.proofs.lemmas.Grind.{common_steps}
use Rattle.lucid_top_words.proofs.command.read_layout.Goals as goal

pub returns-in-len2-clause-command : goal.returns-in-len2-clause-command
returns-in-len2-clause-command c = grind (arith, common_steps)

pub returns-in_default-clause-command : goal.returns-in_default-clause-command
returns-in_default-clause-command c = grind (arith, common_steps)
