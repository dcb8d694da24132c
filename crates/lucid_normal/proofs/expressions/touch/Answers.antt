use Rattle.std.proofs.Common.{◌∙◌, ap}
use Rattle.std.proofs.lemmas.Result.{on_ok_weaker}
use Rattle.lucid_normal.specs.Bodies.{after_all, walk}
use Rattle.lucid_normal.proofs.ExpressionsLemmas.{index}
use Rattle.lucid_normal.proofs.expressions.touch.Goals as goal

pub returns : goal.returns
returns c =
    on_ok_weaker c.express_then.result (λ h. h ∙ ap (after_all c.args.tasks.now) (index c.args.t (walk c.args.machine.now)))
    c.express_then.ensures
