use Rattle.std.proofs.Common.{arith}
use Rattle.std.proofs.lemmas.Grind.{common_steps}
use Rattle.lucid_size.proofs.used.Used.add.Goals as goal

pub returns-in_ok-push-in-Ok-true-clause-sees : goal.returns-in_ok-push-in-Ok-true-clause-sees
returns-in_ok-push-in-Ok-true-clause-sees c = grind (arith, common_steps)
