use Rattle.std.proofs.Common.{arith}
use Rattle.std.proofs.lemmas.Grind.{common_steps}
use Rattle.lucid_inline.proofs.GroupLemmas.{locals_more}
use Rattle.lucid_inline.proofs.group.locals_read.Goals as goal

pub loop-i-preserved : goal.loop-i-preserved
loop-i-preserved c = grind (arith, common_steps, locals_more)
