use Rattle.std.proofs.Common.{arith}
use Rattle.std.proofs.lemmas.Grind.{moves}
use Rattle.lucid_size.proofs.steps.width_at.Goals as goal

pub returns-then-is_width : goal.returns-then-is_width
returns-then-is_width c = grind (arith, moves)
