use Rattle.lucid_effects_spec.proofs.Rising as rising
use Rattle.lucid_effects_spec.proofs.laws.touches_rise.Goals as goal

pub returns : goal.returns
returns c = rising.touches_rise c.args.core.now c.arrays-valid.ensures.valid.sound
