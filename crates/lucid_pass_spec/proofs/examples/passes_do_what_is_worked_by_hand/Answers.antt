use Rattle.lucid_pass_spec.proofs.PassExamples.{pass_examples}
use Rattle.lucid_pass_spec.proofs.examples.passes_do_what_is_worked_by_hand.Goals as goal

pub returns : goal.returns
returns c = pass_examples
