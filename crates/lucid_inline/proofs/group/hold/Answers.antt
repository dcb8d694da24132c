use Rattle.std.proofs.Common.{arith}
use Rattle.std.proofs.lemmas.Grind.{common_steps}
use Rattle.lucid_inline.proofs.GroupLemmas.{assigned_more}
use Rattle.lucid_inline.proofs.group.hold.Goals as goal

pub loop-e-preserved : goal.loop-e-preserved
loop-e-preserved c = grind (arith, common_steps, assigned_more)
