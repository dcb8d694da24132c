use Rattle.lucid_effects_spec.proofs.Costs.{walks_are_short}
use Rattle.lucid_effects_spec.proofs.scheme_laws.walks_are_short.Goals as goal

pub returns : goal.returns
returns c = walks_are_short c.args.core.now c.arrays-valid.ensures.valid.sound
