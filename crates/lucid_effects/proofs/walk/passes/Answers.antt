use Rattle.std.proofs.Common.{arith}
use Rattle.std.proofs.lemmas.Grind.{common_steps}
use Rattle.lucid_effects.proofs.walk.passes.Goals as goal

pub returns-in_err-add_before : goal.returns-in_err-add_before
returns-in_err-add_before g c = grind (arith, common_steps)

pub returns-in_err-ends : goal.returns-in_err-ends
returns-in_err-ends g c = grind (arith, common_steps)

pub returns : goal.returns
returns g c = grind (arith, common_steps)
