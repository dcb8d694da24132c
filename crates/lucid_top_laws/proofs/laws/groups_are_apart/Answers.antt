use Rattle.lucid_top_laws.proofs.GroupsLemmas.{apart}
use Rattle.lucid_top_laws.proofs.laws.groups_are_apart.Goals as goal

pub returns : goal.returns
returns c = apart
