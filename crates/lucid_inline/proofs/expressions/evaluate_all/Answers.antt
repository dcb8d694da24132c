use Rattle.std.proofs.Common.{◌∙◌, List, ap, sym}
use Rattle.lucid_core.specs.declared.body.Expr.{Expr}
use Rattle.lucid_inline.specs.Bodies.{after_all, all_valued, valued}
use Rattle.lucid_inline.proofs.BodiesLemmas.{after_push, leads_to}
use Rattle.lucid_inline.proofs.ExpressionsLemmas.{values_next}
use Rattle.lucid_inline.proofs.expressions.evaluate_all.Goals as goal

pub returns-in_ok-push-in-Some : goal.returns-in_ok-push-in-Some
returns-in_ok-push-in-Some c =
    let m = c.args.machine.now in
    let tasks = c.args.tasks.now in
    let x = c.in-Some.e.now in
    leads_to (after_all c.push.new.self (valued x m)) (after_all tasks (all_valued c.args.es.now m)) c.evaluate.new.machine c.evaluate.new.tasks c.evaluate.result
    (after_push tasks c.push.new.self _ (valued x m) c.in_ok-push-in-Some.ensures
    ∙ ap (after_all tasks) (values_next m x c.in-Some.rest.now ∙ ap (λ (xs : List Expr). all_valued xs m) (sym c.in-Some.ensures.cases.0)))
    c.evaluate.ensures
