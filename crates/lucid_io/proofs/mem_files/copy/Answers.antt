use Rattle.std.proofs.Common.{arith}
use Rattle.std.proofs.lemmas.Grind.{elements}
use Rattle.lucid_io.proofs.mem_files.copy.Goals as goal

pub returns-clause-room : goal.returns-clause-room
returns-clause-room c = grind (arith, elements)
