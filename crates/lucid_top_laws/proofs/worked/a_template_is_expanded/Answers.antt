use Rattle.lucid_top_laws.proofs.TemplateExamples.{is_source}
use Rattle.lucid_top_laws.proofs.worked.a_template_is_expanded.Goals as goal

pub returns : goal.returns
returns c = is_source
