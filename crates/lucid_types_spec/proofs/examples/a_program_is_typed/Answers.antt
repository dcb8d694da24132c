use Rattle.lucid_types_spec.proofs.ExampleProofs.{worked_is_typed}
use Rattle.lucid_types_spec.proofs.examples.a_program_is_typed.Goals as goal

pub returns : goal.returns
returns c = worked_is_typed
