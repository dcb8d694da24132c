use Rattle.std.proofs.Common.{arith}
use Rattle.std.proofs.lemmas.Grind.{common_steps}
use Rattle.lucid_size.proofs.underscores.run_of.Goals as goal

pub returns-then-is_name-clause-within : goal.returns-then-is_name-clause-within
returns-then-is_name-clause-within c = grind (arith, common_steps)
