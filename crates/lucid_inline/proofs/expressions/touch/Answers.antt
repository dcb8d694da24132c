use Rattle.std.proofs.Common.{◌∙◌, ap}
use Rattle.lucid_core.specs.declared.body.Expr.TheVariants as e
use Rattle.lucid_core.specs.declared.body.Touch.{out-Touch}
use Rattle.lucid_inline.specs.Bodies.{after_all, valued}
use Rattle.lucid_inline.proofs.BodiesLemmas.{after_push, leads_to}
use Rattle.lucid_inline.proofs.ExpressionsLemmas.{array_valued}
use Rattle.lucid_inline.proofs.expressions.touch.Goals as goal

pub returns : goal.returns
returns c =
    let m = c.args.machine.now in
    let tasks = c.args.tasks.now in
    let t = out-Touch c.args.t.now in
    let operands = valued t.get_arg (valued t.index m) in
    leads_to (after_all c.push-2.new.self operands) (after_all tasks (valued (e.Array c.args.t.now) m)) c.evaluate_both.new.machine c.evaluate_both.new.tasks c.evaluate_both.result
    (after_push c.push.new.self c.push-2.new.self _ operands c.in_ok-push-2.ensures
    ∙ after_push tasks c.push.new.self _ (valued t.set_arg operands) c.in_ok-push.ensures
    ∙ ap (after_all tasks) (array_valued m c.args.t.now))
    c.evaluate_both.ensures
