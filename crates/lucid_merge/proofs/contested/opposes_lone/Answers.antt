use Rattle.std.proofs.Common.{arith}
use Rattle.std.proofs.lemmas.Grind.{elements}
use Rattle.lucid_merge.proofs.contested.opposes_lone.Goals as goal

pub returns-then-opposed : goal.returns-then-opposed
returns-then-opposed c = grind (arith, elements)

pub returns-else-opposed : goal.returns-else-opposed
returns-else-opposed c = grind (arith, elements)

pub returns-in-None : goal.returns-in-None
returns-in-None c = grind (arith, elements)
