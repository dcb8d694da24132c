use Rattle.lucid_core_laws.proofs.SmallPrograms.{small_is_built, flat_is_built}
use Rattle.lucid_core_laws.proofs.examples.programs_are_built_node_by_node.Goals as goal

pub returns : goal.returns
returns c = record { core = small_is_built; flat_core = flat_is_built }
