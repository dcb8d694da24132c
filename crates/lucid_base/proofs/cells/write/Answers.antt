use Rattle.std.proofs.Common.{arith}
use Rattle.std.proofs.lemmas.Grind.{common_steps}
use Rattle.lucid_base.proofs.cells.write.Goals as goal

pub within-at-requires : goal.within-at-requires
within-at-requires c = grind (arith, common_steps)
