use Rattle.std.proofs.Common.{arith}
use Rattle.std.proofs.lemmas.Grind.{elements}
use Rattle.lucid_merge.proofs.partners.is_partner.Goals as goal

pub returns-else-not-contradict_by : goal.returns-else-not-contradict_by
returns-else-not-contradict_by c = grind (arith, elements)

pub returns-then-not-contradict_by : goal.returns-then-not-contradict_by
returns-then-not-contradict_by c = grind (arith, elements)
