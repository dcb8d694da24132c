use Rattle.lucid_effects_spec.proofs.OwnNumbers as numbers
use Rattle.lucid_effects_spec.proofs.laws.own_numbers_decide.Goals as goal

pub returns : goal.returns
returns c = numbers.own_numbers_decide c.args.core.now c.arrays-valid.ensures.valid.sound
