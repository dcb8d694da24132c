use Rattle.lucid_constraints.proofs.LawProofs.{pairs_keep_meaning}
use Rattle.lucid_constraints.proofs.laws.pairs_keep_meaning.Goals as goal

pub returns : goal.returns
returns c = pairs_keep_meaning
