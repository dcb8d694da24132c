-- As by any function that computes the rules of declarations.
use Rattle.lucid_types_spec.proofs.First.{finds_first}
use Rattle.lucid_types_laws.specs.Declaration.{declaration}
use Rattle.lucid_types_laws.proofs.Declarations.{computes}
use Rattle.lucid_types_laws.proofs.laws.programs_are_decided.Goals as goal

pub returns : goal.returns
returns c = finds_first declaration computes
