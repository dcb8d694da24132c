use Rattle.std.proofs.Common.{arith}
use Rattle.std.proofs.lemmas.Grind.{elements}
use Rattle.lucid_types_declarations.proofs.events.handle_event.Goals as goal

pub returns-then-is_some : goal.returns-then-is_some
returns-then-is_some c = grind (arith, elements)

pub returns-in-None : goal.returns-in-None
returns-in-None c = grind (arith, elements)

pub returns-in-Ok-add_handler : goal.returns-in-Ok-add_handler
returns-in-Ok-add_handler c = grind (arith, elements)
