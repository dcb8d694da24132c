use Rattle.lucid_top_laws.proofs.GeneratedCore.{core_parts}
use Rattle.lucid_top_laws.proofs.GeneratedProgram.{is_read}
use Rattle.lucid_top_laws.proofs.GeneratedSettings as settings
use Rattle.lucid_top_laws.proofs.worked.generated_texts_are_read.Goals as goal

pub returns : goal.returns
returns c = record {
  core = core_parts;
  program = is_read c.declarations_are_read_as_spelled.ensures;
  limits = settings.limits;
  within = settings.are_limits;
  scene = settings.scene;
  runs = settings.is_scenario;
}
