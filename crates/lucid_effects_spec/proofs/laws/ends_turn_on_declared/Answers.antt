use Rattle.lucid_effects_spec.proofs.Alike as alike
use Rattle.lucid_effects_spec.proofs.laws.ends_turn_on_declared.Goals as goal

pub returns : goal.returns
returns c = alike.handlers_alike c.args.core.now c.arrays-valid.ensures.valid.sound
