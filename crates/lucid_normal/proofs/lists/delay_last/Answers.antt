use Rattle.std.proofs.Common.{◌∙◌, ap, None}
use Rattle.std.proofs.lemmas.Result.{on_ok_weaker}
use Rattle.lucid_normal.specs.Bodies.{after_all, walk}
use Rattle.lucid_normal.proofs.ListsLemmas as law
use Rattle.lucid_normal.proofs.lists.delay_last.Goals as goal

pub returns : goal.returns
returns c =
    let a = c.args in
    on_ok_weaker c.express_option_then.result
    (λ h. h ∙ ap (after_all a.tasks.now)
    (law.delay_second a.event a.args a.delay.now None (walk a.machine.now) a.targeted c.target_of-to.result c.target_of-to.ensures))
    c.express_option_then.ensures
