use Rattle.lucid_inline_spec.proofs.SameOrder as order
use Rattle.lucid_inline_spec.proofs.laws.keeps_order.Goals as goal

pub returns : goal.returns
returns c = order.handlers_keep_order c.args.core.now c.arrays-valid.ensures.valid
