use Rattle.lucid_core.proofs.BodiesFit as bodies
use Rattle.lucid_core.proofs.laws.flat_outs_fit.Goals as goal

pub returns : goal.returns
returns c = bodies.outs_fit c.args.flat.now c.arrays-valid.ensures.valid.sound
