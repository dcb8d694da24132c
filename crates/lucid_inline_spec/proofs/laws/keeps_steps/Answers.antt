use Rattle.lucid_inline_spec.proofs.Steps as steps
use Rattle.lucid_inline_spec.proofs.laws.keeps_steps.Goals as goal

pub returns : goal.returns
returns c = steps.flat_steps c.args.core.now c.arrays-valid.ensures.valid
