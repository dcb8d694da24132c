use Rattle.lucid_core.proofs.Static as static
use Rattle.lucid_core.proofs.laws.widths_are_static.Goals as goal

pub returns : goal.returns
returns c = static.widths_are_static c.args.core.now c.arrays-valid.ensures.valid.sound
