use Rattle.std.proofs.Common.{◌∙◌, ap, None}
use Rattle.std.proofs.lemmas.Result.{on_ok_weaker}
use Rattle.lucid_normal_spec.specs.declared.env.Typed.{Typed}
use Rattle.lucid_normal.specs.Bodies.{after_all, walk}
use Rattle.lucid_normal.proofs.ListsLemmas as law
use Rattle.lucid_normal.proofs.lists.target_last.Goals as goal

pub returns : goal.returns
returns c =
    let a = c.args in
    on_ok_weaker c.express_option_then.result
    (λ h. h ∙ ap (after_all a.tasks.now)
    (law.target_second a.event a.args None a.to.now (walk a.machine.now) c.needed.result.operand c.is_some.result
    (ap (λ (t : Typed). t.operand) c.needed.ensures) c.is_some.ensures))
    c.express_option_then.ensures
