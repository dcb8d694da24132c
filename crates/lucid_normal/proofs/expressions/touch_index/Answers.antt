use Rattle.std.proofs.Common.{◌∙◌, ap}
use Rattle.std.proofs.lemmas.Result.{on_ok_weaker}
use Rattle.lucid_normal.specs.Bodies.{after_all, walk}
use Rattle.lucid_normal.proofs.ExpressionsLemmas.{get_arg}
use Rattle.lucid_normal.proofs.expressions.touch_index.Goals as goal

pub returns : goal.returns
returns c =
    on_ok_weaker c.express_then.result
    (λ h. h ∙ ap (after_all c.args.tasks.now) (get_arg c.args.t c.needed.result (walk c.args.machine.now) c.needed.ensures))
    c.express_then.ensures
