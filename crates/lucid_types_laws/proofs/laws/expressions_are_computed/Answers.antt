-- Both ways.
use Rattle.lucid_types_laws.proofs.Complete as complete
use Rattle.lucid_types_laws.proofs.Sound as sound
use Rattle.lucid_types_laws.proofs.laws.expressions_are_computed.Goals as goal

pub returns : goal.returns
returns c = λ s t x core. (sound.typed x s t core, complete.typed)
