use Rattle.lucid_effects_spec.proofs.PathProofs.{program_examples}
use Rattle.lucid_effects_spec.proofs.examples.programs_are_accepted_or_refused.Goals as goal

pub returns : goal.returns
returns c = program_examples
