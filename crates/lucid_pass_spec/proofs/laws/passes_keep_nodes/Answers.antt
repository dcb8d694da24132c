use Rattle.lucid_pass_spec.proofs.DirectRuns.{direct_nodes}
use Rattle.lucid_pass_spec.proofs.Gone.{dead_nodes}
use Rattle.lucid_pass_spec.proofs.Looking.{copies_nodes, fold_nodes}
use Rattle.lucid_pass_spec.proofs.laws.passes_keep_nodes.Goals as goal

pub returns-clause-fold : goal.returns-clause-fold
returns-clause-fold c = fold_nodes

pub returns-clause-copies : goal.returns-clause-copies
returns-clause-copies c = copies_nodes

pub returns-clause-dead : goal.returns-clause-dead
returns-clause-dead c = dead_nodes

pub returns-clause-direct : goal.returns-clause-direct
returns-clause-direct c = direct_nodes
