use Rattle.lucid_code.proofs.RunsFit.{runs_fit}
use Rattle.lucid_code.proofs.laws.runs_fit.Goals as goal

pub returns : goal.returns
returns c = runs_fit c.args.code.now c.ops-valid.ensures.valid
