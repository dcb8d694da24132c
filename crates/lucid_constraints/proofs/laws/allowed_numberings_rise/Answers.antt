use Rattle.lucid_constraints.proofs.LawProofs.{allowed_numberings_rise}
use Rattle.lucid_constraints.proofs.laws.allowed_numberings_rise.Goals as goal

pub returns : goal.returns
returns c = allowed_numberings_rise
