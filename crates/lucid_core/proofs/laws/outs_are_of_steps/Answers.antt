use Rattle.lucid_core.proofs.Entries.{outs_at}
use Rattle.lucid_core.proofs.laws.outs_are_of_steps.Goals as goal

pub returns : goal.returns
returns c = outs_at c.args.core.now
