use Rattle.std.proofs.Common.{arith}
use Rattle.std.proofs.lemmas.Grind.{common_steps}
use Rattle.lucid_top_words.proofs.command.Command.read.Goals as goal

pub returns-in-empty-clause-command : goal.returns-in-empty-clause-command
returns-in-empty-clause-command c = grind (arith, common_steps)

pub returns-in-len1-up-clause-command : goal.returns-in-len1-up-clause-command
returns-in-len1-up-clause-command c = grind (arith, common_steps)
