use Rattle.lucid_inline_spec.proofs.FewLocals as few
use Rattle.lucid_inline_spec.proofs.laws.has_few_locals.Goals as goal

pub returns : goal.returns
returns c = few.few_locals c.args.core.now c.arrays-valid.ensures.valid
