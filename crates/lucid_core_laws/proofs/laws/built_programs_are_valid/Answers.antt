use Rattle.lucid_core_laws.proofs.Built.{core_is_valid, flat_is_valid}
use Rattle.lucid_core_laws.proofs.laws.built_programs_are_valid.Goals as goal

pub returns : goal.returns
returns c = record { core = core_is_valid; flat = flat_is_valid }
