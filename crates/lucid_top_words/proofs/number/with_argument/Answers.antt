use Rattle.std.proofs.Common.{arith}
use Rattle.std.proofs.lemmas.Grind.{common_steps}
use Rattle.lucid_top_words.proofs.number.with_argument.Goals as goal

pub returns-in_err-args : goal.returns-in_err-args
returns-in_err-args c = grind (arith, common_steps)

pub returns : goal.returns
returns c = grind (arith, common_steps)
