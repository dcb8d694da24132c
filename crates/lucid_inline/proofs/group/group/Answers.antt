use Rattle.std.proofs.Common.{arith}
use Rattle.std.proofs.lemmas.Grind.{moves}
use Rattle.lucid_inline.proofs.group.group.Goals as goal

pub returns : goal.returns
returns c = grind (arith, moves)
