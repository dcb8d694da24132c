use Rattle.lucid_pipe.proofs.Passes.{passes}
use Rattle.lucid_pipe.proofs.laws.moves_are_passes.Goals as goal

pub returns : goal.returns
returns c = passes c.args.placed.now c.moves_keep.ensures
