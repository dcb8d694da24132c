use Rattle.std.proofs.Common.{arith}
use Rattle.std.proofs.lemmas.Grind.{elements}
use Rattle.lucid_core_run.proofs.whole.handler_of.Goals as goal

pub returns-in_err-event : goal.returns-in_err-event
returns-in_err-event c = grind (arith, elements)

pub returns-in_err-handler : goal.returns-in_err-handler
returns-in_err-handler c = grind (arith, elements)

pub returns : goal.returns
returns c = grind (arith, elements)
