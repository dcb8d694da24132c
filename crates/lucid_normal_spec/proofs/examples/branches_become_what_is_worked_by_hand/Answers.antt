use Rattle.lucid_normal_spec.proofs.ExampleProofs.{branch_examples}
use Rattle.lucid_normal_spec.proofs.examples.branches_become_what_is_worked_by_hand.Goals as goal

pub returns : goal.returns
returns c = branch_examples
