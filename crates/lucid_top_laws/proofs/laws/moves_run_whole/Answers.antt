use Rattle.lucid_top_laws.proofs.Moving.{moves_run}
use Rattle.lucid_top_laws.proofs.laws.moves_run_whole.Goals as goal

pub returns : goal.returns
returns c core stands arrays = moves_run c.args.placed.now core (c.placements_run_whole.ensures core stands) c.moves_are_passes.ensures arrays
