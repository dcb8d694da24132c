use Rattle.lucid_tests.proofs.StepProofs.{step_examples}
use Rattle.lucid_tests.proofs.examples.the_step_gives_what_is_worked_by_hand.Goals as goal

pub returns : goal.returns
returns c = step_examples
