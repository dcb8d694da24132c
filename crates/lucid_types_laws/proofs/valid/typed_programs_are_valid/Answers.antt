use Rattle.lucid_types_laws.proofs.Programs.{typed_is_valid}
use Rattle.lucid_types_laws.proofs.valid.typed_programs_are_valid.Goals as goal

pub returns : goal.returns
returns c = typed_is_valid
