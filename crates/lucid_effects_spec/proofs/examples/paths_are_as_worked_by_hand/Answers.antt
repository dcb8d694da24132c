use Rattle.lucid_effects_spec.proofs.PathProofs.{path_examples}
use Rattle.lucid_effects_spec.proofs.examples.paths_are_as_worked_by_hand.Goals as goal

pub returns : goal.returns
returns c = path_examples
