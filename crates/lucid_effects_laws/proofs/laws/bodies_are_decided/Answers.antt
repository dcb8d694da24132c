use Rattle.lucid_effects_laws.proofs.LawsLemmas.{bodies_are_decided}
use Rattle.lucid_effects_laws.proofs.laws.bodies_are_decided.Goals as goal

pub returns : goal.returns
returns c = bodies_are_decided
