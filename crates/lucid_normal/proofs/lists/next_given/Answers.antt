use Rattle.std.proofs.Common.{◌∙◌, ap}
use Rattle.std.proofs.lemmas.Result.{on_ok_weaker}
use Rattle.lucid_normal.specs.Bodies.{after_all, walk}
use Rattle.lucid_normal.proofs.ListsLemmas.{inlined_end, inlined_step}
use Rattle.lucid_normal.proofs.lists.next_given.Goals as goal

pub returns-in-None : goal.returns-in-None
returns-in-None c =
    let a = c.args in
    on_ok_weaker c.enter_body.result
    (λ h. h ∙ ap (after_all a.tasks.now) (inlined_end a.held a.rest.now a.stmts.now (walk a.machine.now) c.in-None.ensures.cases))
    c.enter_body.ensures

pub returns-in-Some : goal.returns-in-Some
returns-in-Some c =
    let a = c.args in
    let s = c.in-Some in
    on_ok_weaker c.express_then.result
    (λ h. h ∙ ap (after_all a.tasks.now)
    (inlined_step a.held a.rest.now s.next.now s.rest.now s.ensures.cases.0 a.stmts.now (walk a.machine.now)))
    c.express_then.ensures
