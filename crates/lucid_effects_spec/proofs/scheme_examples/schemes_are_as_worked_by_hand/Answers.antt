use Rattle.lucid_effects_spec.proofs.ExampleProofs.{scheme_examples}
use Rattle.lucid_effects_spec.proofs.scheme_examples.schemes_are_as_worked_by_hand.Goals as goal

pub returns : goal.returns
returns c = scheme_examples
