use Rattle.std.proofs.Common.{◌∙◌, Option, ap, sym}
use Rattle.lucid_core.specs.declared.body.Expr.{Expr}
use Rattle.lucid_core.specs.declared.body.Stmt.TheVariants as s
use Rattle.lucid_inline.specs.Bodies.{after_all, done, valued}
use Rattle.lucid_inline.proofs.BodiesLemmas.{after_push, leads, leads_to}
use Rattle.lucid_inline.proofs.StatementsLemmas.{end_done, return_done}
use Rattle.lucid_inline.proofs.statements.begin_return.Goals as goal

pub returns-in-None : goal.returns-in-None
returns-in-None c =
    let m = c.args.machine.now in
    leads (after_all c.args.tasks.now (done (s.Return c.args.e.now) m)) c.append.new.machine c.args.tasks.now c.append.result _ c.append.ensures
    (λ is. ap (after_all c.args.tasks.now) (is ∙ end_done m ∙ ap (λ (x : Option Expr). done (s.Return x) m) (sym c.in-None.is)))

pub returns-in_ok-push-in-Some : goal.returns-in_ok-push-in-Some
returns-in_ok-push-in-Some c =
    let m = c.args.machine.now in
    let tasks = c.args.tasks.now in
    let operand = valued c.in-Some.e m in
    leads_to (after_all c.push.new.self operand) (after_all tasks (done (s.Return c.args.e.now) m)) c.evaluate.new.machine c.evaluate.new.tasks c.evaluate.result
    (after_push tasks c.push.new.self _ operand c.in_ok-push-in-Some.ensures
    ∙ ap (after_all tasks) (return_done m c.in-Some.e ∙ ap (λ (x : Option Expr). done (s.Return x) m) (sym c.in-Some.is)))
    c.evaluate.ensures
