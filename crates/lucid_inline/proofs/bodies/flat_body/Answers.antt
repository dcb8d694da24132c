use Rattle.std.proofs.Common.{arith}
use Rattle.std.proofs.lemmas.Grind.{moves}
use Rattle.lucid_inline.proofs.bodies.flat_body.Goals as goal

pub returns : goal.returns
returns c = grind (arith, moves)
