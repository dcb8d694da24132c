use Rattle.lucid_core_run.proofs.list.complete.Goals as goal

pub returns-in-Call : goal.returns-in-Call
returns-in-Call c = rw c.in-Call.is c.call.ensures
