use Rattle.lucid_top_laws.proofs.Packets.{runs_whole}
use Rattle.lucid_top_laws.proofs.laws.placements_run_whole.Goals as goal

pub returns : goal.returns
returns c core stands = runs_whole c.args.placed.now core c.code-code.ensures.pass stands
