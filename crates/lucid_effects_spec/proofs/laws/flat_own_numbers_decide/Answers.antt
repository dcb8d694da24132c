use Rattle.lucid_effects_spec.proofs.OwnNumbers as numbers
use Rattle.lucid_effects_spec.proofs.laws.flat_own_numbers_decide.Goals as goal

pub returns : goal.returns
returns c = numbers.own_numbers_decide c.args.flat.now c.arrays-valid.ensures.valid.sound
