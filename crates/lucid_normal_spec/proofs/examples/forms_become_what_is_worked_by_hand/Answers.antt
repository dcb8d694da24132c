use Rattle.lucid_normal_spec.proofs.ExampleProofs.{form_examples}
use Rattle.lucid_normal_spec.proofs.examples.forms_become_what_is_worked_by_hand.Goals as goal

pub returns : goal.returns
returns c = form_examples
