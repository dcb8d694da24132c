use Rattle.std.proofs.Common.{arith}
use Rattle.std.proofs.lemmas.Grind.{common_steps, elements}
use Rattle.lucid_io.proofs.HistoryLemmas.{heard_nothing, heard_part, if_err_weaker}
use Rattle.lucid_io.proofs.reading.read_all.Goals as goal

pub returns-in-Ok-clause-others : goal.returns-in-Ok-clause-others
returns-in-Ok-clause-others g c = grind (arith, common_steps)

pub returns-in-Err-clause-read_fault : goal.returns-in-Err-clause-read_fault
returns-in-Err-clause-read_fault g c = grind (arith, elements)

pub returns-in-Ok-clause-heard_part : goal.returns-in-Ok-clause-heard_part
returns-in-Ok-clause-heard_part g c =
    if_err_weaker c.take_rest.result (λ why part. heard_part _ _ _ _ _ _ c.args.limit _ c.begin.ensures.heard c.in-Ok.ensures.left part) c.take_rest.ensures.heard_part

pub returns-in-Err-clause-heard_part : goal.returns-in-Err-clause-heard_part
returns-in-Err-clause-heard_part g c = heard_nothing _ _ _ _ c.args.limit _ c.begin.ensures.heard (λ long. cc)
