use Rattle.std.proofs.Common.{◌∙◌, ap}
use Rattle.std.proofs.lemmas.Result.{on_ok_weaker}
use Rattle.lucid_normal.specs.Bodies.{after_all, walk}
use Rattle.lucid_normal.proofs.ExpressionsLemmas as law
use Rattle.lucid_normal.proofs.expressions.cmp_right.Goals as goal

pub returns : goal.returns
returns c =
    on_ok_weaker c.express_then.result
    (λ h. h ∙ ap (after_all c.args.tasks.now)
    (law.cmp_right c.args.op c.needed.result c.args.y.now (walk c.args.machine.now) c.needed.ensures))
    c.express_then.ensures
