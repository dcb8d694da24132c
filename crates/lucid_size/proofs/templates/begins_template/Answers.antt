use Rattle.std.proofs.Common.{arith}
use Rattle.std.proofs.lemmas.Grind.{common_steps}
use Rattle.lucid_size.proofs.templates.begins_template.Goals as goal

pub returns-then-is_name : goal.returns-then-is_name
returns-then-is_name c = grind (arith, common_steps)
