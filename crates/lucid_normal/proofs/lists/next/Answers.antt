use Rattle.std.proofs.Common.{◌∙◌, ap}
use Rattle.std.proofs.lemmas.Result.{on_ok_weaker}
use Rattle.lucid_normal.specs.Bodies.{after_all, walk}
use Rattle.lucid_normal.proofs.ListsLemmas.{listed_end, listed_step}
use Rattle.lucid_normal.proofs.lists.next.Goals as goal

pub returns-in-None : goal.returns-in-None
returns-in-None c =
    let a = c.args in
    on_ok_weaker c.complete.result
    (λ h. h ∙ ap (after_all a.tasks.now) (listed_end a.done a.rest.now a.purpose.now (walk a.machine.now) c.in-None.ensures.cases))
    c.complete.ensures

pub returns-in-Some : goal.returns-in-Some
returns-in-Some c =
    let a = c.args in
    on_ok_weaker c.express_then.result
    (λ h. h ∙ ap (after_all a.tasks.now)
    (listed_step a.done a.rest.now c.in-Some.e.now c.in-Some.rest.now c.in-Some.ensures.cases.0 c.same.result a.purpose.now c.same.ensures
    (walk a.machine.now)))
    c.express_then.ensures
