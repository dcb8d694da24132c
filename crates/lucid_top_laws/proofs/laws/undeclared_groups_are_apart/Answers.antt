use Rattle.lucid_top_laws.proofs.GroupTreesLemmas.{apart}
use Rattle.lucid_top_laws.proofs.laws.undeclared_groups_are_apart.Goals as goal

pub returns : goal.returns
returns c = apart
