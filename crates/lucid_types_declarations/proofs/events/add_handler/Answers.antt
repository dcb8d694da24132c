use Rattle.std.proofs.Common.{arith}
use Rattle.std.proofs.lemmas.Grind.{elements}
use Rattle.lucid_types_declarations.proofs.events.add_handler.Goals as goal

pub returns : goal.returns
returns c = grind (arith, elements)
