use Rattle.lucid_pass_spec.proofs.DirectRuns.{direct_replaces}
use Rattle.lucid_pass_spec.proofs.Gone.{dead_replaces}
use Rattle.lucid_pass_spec.proofs.Looking.{copies_replaces, fold_replaces}
use Rattle.lucid_pass_spec.proofs.laws.passes_replace.Goals as goal

pub returns-clause-fold : goal.returns-clause-fold
returns-clause-fold c = fold_replaces

pub returns-clause-copies : goal.returns-clause-copies
returns-clause-copies c = copies_replaces

pub returns-clause-dead : goal.returns-clause-dead
returns-clause-dead c = dead_replaces

pub returns-clause-direct : goal.returns-clause-direct
returns-clause-direct c = direct_replaces
