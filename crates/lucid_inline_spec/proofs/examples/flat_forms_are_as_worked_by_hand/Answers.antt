use Rattle.lucid_inline_spec.proofs.ExampleProofs.{flat_examples}
use Rattle.lucid_inline_spec.proofs.examples.flat_forms_are_as_worked_by_hand.Goals as goal

pub returns : goal.returns
returns c = flat_examples
