use Rattle.std.proofs.Common.{◌∙◌, List, ap, sym}
use Rattle.lucid_core.specs.declared.body.Stmt.{Stmt}
use Rattle.lucid_inline.specs.Bodies.{after_all, done, ran}
use Rattle.lucid_inline.proofs.BodiesLemmas.{after_push, leads_to}
use Rattle.lucid_inline.proofs.StatementsLemmas.{ran_next, ran_none}
use Rattle.lucid_inline.proofs.statements.block.Goals as goal

pub returns-in-None : goal.returns-in-None
returns-in-None c =
    ap (after_all c.args.tasks.now) (ran_none c.args.machine.now c.args.stmts.now c.in-None.ensures.cases)

pub returns-in_ok-push-in-Some : goal.returns-in_ok-push-in-Some
returns-in_ok-push-in-Some c =
    let m = c.args.machine.now in
    let tasks = c.args.tasks.now in
    let x = c.in-Some.stmt.now in
    leads_to (after_all c.push.new.self (done x m)) (after_all tasks (ran c.args.stmts.now m)) c.statement.new.machine c.statement.new.tasks c.statement.result
    (after_push tasks c.push.new.self _ (done x m) c.in_ok-push-in-Some.ensures
    ∙ ap (after_all tasks) (ran_next m x c.in-Some.rest.now ∙ ap (λ (xs : List Stmt). ran xs m) (sym c.in-Some.ensures.cases.0)))
    c.statement.ensures
