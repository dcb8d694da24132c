use Rattle.lucid_pass.proofs.LawsLemmas.{through_nodes, through_replaces}
use Rattle.lucid_pass.proofs.laws.lists_keep_the_laws.Goals as goal

pub returns-clause-replaces : goal.returns-clause-replaces
returns-clause-replaces c = through_replaces

pub returns-clause-nodes : goal.returns-clause-nodes
returns-clause-nodes c = through_nodes
