use Rattle.std.proofs.Common.{arith}
use Rattle.std.proofs.lemmas.Grind.{elements}
use Rattle.lucid_effects.proofs.walk.goes_through.Goals as goal

pub returns-then-k-schemes : goal.returns-then-k-schemes
returns-then-k-schemes g c = grind (arith, elements)

pub returns-else-k-schemes : goal.returns-else-k-schemes
returns-else-k-schemes g c = grind (arith, elements)
