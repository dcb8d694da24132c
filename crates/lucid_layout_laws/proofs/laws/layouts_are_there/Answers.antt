use Rattle.lucid_layout_laws.proofs.LawsLemmas.{layouts_are_there}
use Rattle.lucid_layout_laws.proofs.laws.layouts_are_there.Goals as goal

pub returns : goal.returns
returns c = layouts_are_there
