use Rattle.lucid_effects_spec.proofs.CyclesTell.{cycles_tell}
use Rattle.lucid_effects_spec.proofs.scheme_laws.cycles_tell.Goals as goal

pub returns : goal.returns
returns c = cycles_tell
