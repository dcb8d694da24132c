use Rattle.lucid_inline_spec.proofs.Valid as valid
use Rattle.lucid_inline_spec.proofs.laws.flat_is_valid.Goals as goal

pub returns : goal.returns
returns c = valid.flat_valid c.args.core.now c.arrays-valid.ensures.valid
