use Rattle.std.proofs.Common.{arith}
use Rattle.std.proofs.lemmas.Grind.{common_steps}
use Rattle.lucid_size.proofs.room.room_behind.Goals as goal

pub loop-step-preserved : goal.loop-step-preserved
loop-step-preserved c = grind (arith, common_steps)

pub returns-in_err-room : goal.returns-in_err-room
returns-in_err-room c = grind (arith, common_steps)

pub returns-in_err-room-2 : goal.returns-in_err-room-2
returns-in_err-room-2 c = grind (arith, common_steps)

pub returns : goal.returns
returns c = grind (arith, common_steps)
