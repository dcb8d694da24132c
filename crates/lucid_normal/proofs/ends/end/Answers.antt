use Rattle.lucid_normal.specs.Bodies.{walk}
use Rattle.lucid_normal.proofs.EndsLemmas.{leaves}
use Rattle.lucid_normal.proofs.ends.end.Goals as goal

pub returns-in-Leave : goal.returns-in-Leave
returns-in-Leave c =
    let l = c.leave-machine.ensures in
    rw c.in-Leave.is (leaves c.in-Leave.caller (walk c.args.machine.now) _ l.value _ l.env _ l.ops _ l.notes)
