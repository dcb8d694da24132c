use Rattle.lucid_core.proofs.BodiesFit as bodies
use Rattle.lucid_core.proofs.laws.cells_stay_fit.Goals as goal

pub returns : goal.returns
returns c = bodies.cells_stay_fit c.args.core.now c.arrays-valid.ensures.valid.sound
