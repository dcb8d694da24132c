use Rattle.std.proofs.Common.{arith}
use Rattle.std.proofs.lemmas.Grind.{common_steps}
use Rattle.lucid_code.proofs.sound.ops_are_sound.Goals as goal

pub returns-then-not-op_is_sound : goal.returns-then-not-op_is_sound
returns-then-not-op_is_sound c = grind (arith, common_steps)

pub loop-op-preserved : goal.loop-op-preserved
loop-op-preserved c = grind (arith, common_steps)

pub returns : goal.returns
returns c = grind (arith, common_steps)
