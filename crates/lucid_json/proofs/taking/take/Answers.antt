use Rattle.lucid_json.proofs.TakingLemmas.{removed}
use Rattle.lucid_json.proofs.taking.take.Goals as goal

pub returns-in-Object-clause-left : goal.returns-in-Object-clause-left
returns-in-Object-clause-left c = λ name.
    let gone = c.remove-taken in
    rw (← c.take.ensures.taken, c.in-Object.is) (removed c.in-Object.members gone.new.self c.args.key.now gone.ensures.updates name)
