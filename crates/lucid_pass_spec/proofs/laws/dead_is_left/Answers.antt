use Rattle.lucid_pass_spec.proofs.Left.{dead_is_left}
use Rattle.lucid_pass_spec.proofs.laws.dead_is_left.Goals as goal

pub returns : goal.returns
returns c = dead_is_left c.args.code.now c.ops-valid.ensures.valid
