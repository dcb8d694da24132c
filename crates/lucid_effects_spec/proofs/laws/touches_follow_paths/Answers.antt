use Rattle.lucid_effects_spec.proofs.Rising.{touches_follow_paths}
use Rattle.lucid_effects_spec.proofs.laws.touches_follow_paths.Goals as goal

pub returns : goal.returns
returns c = touches_follow_paths
