use Rattle.lucid_pass_laws.proofs.Composed.{code_stands}
use Rattle.lucid_pass_laws.proofs.laws.code_stands.Goals as goal

pub returns : goal.returns
returns c = code_stands c.args.core.now c.keeps_steps.ensures c.flat_is_valid.ensures
