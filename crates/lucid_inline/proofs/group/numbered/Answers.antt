use Rattle.std.proofs.Common.{arith}
use Rattle.std.proofs.lemmas.Grind.{common_steps}
use Rattle.lucid_inline.proofs.GroupLemmas.{one_more}
use Rattle.lucid_inline.proofs.group.numbered.Goals as goal

pub loop-arg-preserved : goal.loop-arg-preserved
loop-arg-preserved c = grind (arith, common_steps, one_more)
