use Rattle.lucid_top_laws.proofs.LevelsLemmas.{roomy_is_placed}
use Rattle.lucid_top_laws.proofs.laws.roomy_code_is_placed.Goals as goal

pub returns : goal.returns
returns c = roomy_is_placed c.layouts_are_there.ensures
