use Rattle.std.proofs.Common.{arith}
use Rattle.std.proofs.lemmas.Grind.{common_steps}
use Rattle.lucid_top_words.proofs.command.read_once.Goals as goal

pub returns-in_err-arguments-in-len2-up-clause-command : goal.returns-in_err-arguments-in-len2-up-clause-command
returns-in_err-arguments-in-len2-up-clause-command c = grind (arith, common_steps)

pub returns-in_default-clause-command : goal.returns-in_default-clause-command
returns-in_default-clause-command c = grind (arith, common_steps)

pub returns-in_ok-arguments-in-len2-up-clause-command : goal.returns-in_ok-arguments-in-len2-up-clause-command
returns-in_ok-arguments-in-len2-up-clause-command c = grind (arith, common_steps)
