-- Both ways.
use Rattle.lucid_types_laws.proofs.Declarations.{computes}
use Rattle.lucid_types_laws.proofs.laws.declarations_are_computed.Goals as goal

pub returns : goal.returns
returns c = computes
