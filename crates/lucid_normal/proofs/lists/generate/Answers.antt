use Rattle.std.proofs.Common.{◌∙◌, ap}
use Rattle.std.proofs.lemmas.Result.{on_ok_weaker}
use Rattle.lucid_normal.specs.Bodies.{after_all, walk}
use Rattle.lucid_normal.proofs.ListsLemmas as law
use Rattle.lucid_normal.proofs.lists.generate.Goals as goal

pub returns-then-delay_first : goal.returns-then-delay_first
returns-then-delay_first c =
    let a = c.args in
    on_ok_weaker c.express_option_then.result
    (λ h. h ∙ ap (after_all a.tasks.now)
    (law.delay_first a.event a.args a.delay.now a.to.now (walk a.machine.now) a.delay_first c.if-delay_first.true))
    c.express_option_then.ensures

pub returns-else-delay_first : goal.returns-else-delay_first
returns-else-delay_first c =
    let a = c.args in
    on_ok_weaker c.express_option_then-else-delay_first.result
    (λ h. h ∙ ap (after_all a.tasks.now)
    (law.target_first a.event a.args a.delay.now a.to.now (walk a.machine.now) a.delay_first c.is_some-targeted.result
    c.if-delay_first.false c.is_some-targeted.ensures))
    c.express_option_then-else-delay_first.ensures
