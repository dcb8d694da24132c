use Rattle.lucid_effects_spec.proofs.Cycles as cycles
use Rattle.lucid_effects_spec.proofs.laws.paths_decide.Goals as goal

pub returns : goal.returns
returns c = record { derived = cycles.paths_decide; end = cycles.ends_are_greatest; cycles = cycles.cycles_refuse }
