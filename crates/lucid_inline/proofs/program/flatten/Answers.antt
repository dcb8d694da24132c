use Rattle.std.proofs.Common.{arith}
use Rattle.std.proofs.lemmas.Grind.{elements, moves}
use Rattle.lucid_inline.proofs.program.flatten.Goals as goal

pub new-requires : goal.new-requires
new-requires c = grind (arith, moves)

pub returns : goal.returns
returns c = grind (arith, moves)

pub returns-in_err-forms : goal.returns-in_err-forms
returns-in_err-forms c = grind (arith, moves)

pub returns-in_err-handlers : goal.returns-in_err-handlers
returns-in_err-handlers c = grind (arith, moves)

pub returns-in_err-events : goal.returns-in_err-events
returns-in_err-events c = grind (arith, moves)

pub returns-in_err-memops : goal.returns-in_err-memops
returns-in_err-memops c = grind (arith, moves)

pub returns-in_err-arrays : goal.returns-in_err-arrays
returns-in_err-arrays c = grind (arith, elements)
