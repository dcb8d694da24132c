use Rattle.lucid_inline.specs.Bodies.{after_all, valued}
use Rattle.lucid_inline.proofs.BodiesLemmas.{after_push, leads_to}
use Rattle.lucid_inline.proofs.expressions.evaluate_both.Goals as goal

pub returns : goal.returns
returns c =
    let first = valued c.args.a.now c.args.machine.now in
    leads_to (after_all c.push.new.self first) (after_all c.args.tasks.now (valued c.args.b.now first)) c.evaluate.new.machine c.evaluate.new.tasks c.evaluate.result
    (after_push c.args.tasks.now c.push.new.self _ first c.in_ok-push.ensures)
    c.evaluate.ensures
