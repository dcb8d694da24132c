use Rattle.std.proofs.Common.{arith}
use Rattle.std.proofs.lemmas.Grind.{common_steps}
use Rattle.lucid_code.proofs.op.Act.map.Goals as goal

pub returns-in-Un : goal.returns-in-Un
returns-in-Un g c = grind (arith, common_steps)

pub returns-in-Bin : goal.returns-in-Bin
returns-in-Bin g c = grind (arith, common_steps)

pub returns-in-Cmp : goal.returns-in-Cmp
returns-in-Cmp g c = grind (arith, common_steps)

pub returns-in-Cast : goal.returns-in-Cast
returns-in-Cast g c = grind (arith, common_steps)

pub returns-in-Hash : goal.returns-in-Hash
returns-in-Hash g c = grind (arith, common_steps)

pub returns-in-Move : goal.returns-in-Move
returns-in-Move g c = grind (arith, common_steps)

pub returns-in-Touch : goal.returns-in-Touch
returns-in-Touch g c = grind (arith, common_steps)

pub returns-in-Gen : goal.returns-in-Gen
returns-in-Gen g c = grind (arith, common_steps)

pub returns-in-Say : goal.returns-in-Say
returns-in-Say g c = grind (arith, common_steps)
