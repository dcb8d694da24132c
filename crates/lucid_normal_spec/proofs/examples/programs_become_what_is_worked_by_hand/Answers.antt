use Rattle.lucid_normal_spec.proofs.ExampleProofs.{program_examples}
use Rattle.lucid_normal_spec.proofs.examples.programs_become_what_is_worked_by_hand.Goals as goal

pub returns : goal.returns
returns c = program_examples
