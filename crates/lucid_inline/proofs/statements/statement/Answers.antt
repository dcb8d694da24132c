use Rattle.std.proofs.Common.{◌∙◌, ap, sym}
use Rattle.lucid_core.specs.declared.body.Stmt.{Stmt}
use Rattle.lucid_inline.specs.Bodies.{after_all, all_valued, done, valued}
use Rattle.lucid_inline.proofs.BodiesLemmas.{after_push, leads_to}
use Rattle.lucid_inline.proofs.StatementsLemmas.{assign_done, drop_done, say_done}
use Rattle.lucid_inline.proofs.statements.statement.Goals as goal

pub returns-in_ok-push-in-Assign : goal.returns-in_ok-push-in-Assign
returns-in_ok-push-in-Assign c =
    let m = c.args.machine.now in
    let tasks = c.args.tasks.now in
    let operands = valued c.in-Assign.e m in
    leads_to (after_all c.push.new.self operands) (after_all tasks (done c.args.stmt.now m)) c.evaluate.new.machine c.evaluate.new.tasks c.evaluate.result
    (after_push tasks c.push.new.self _ operands c.in_ok-push-in-Assign.ensures
    ∙ ap (after_all tasks) (assign_done m c.in-Assign.i c.in-Assign.e ∙ ap (λ (x : Stmt). done x m) (sym c.in-Assign.is)))
    c.evaluate.ensures

pub returns-in_ok-push-in-Drop : goal.returns-in_ok-push-in-Drop
returns-in_ok-push-in-Drop c =
    let m = c.args.machine.now in
    let tasks = c.args.tasks.now in
    let operands = valued c.in-Drop.e m in
    leads_to (after_all c.push-in-Drop.new.self operands) (after_all tasks (done c.args.stmt.now m)) c.evaluate-in-Drop.new.machine c.evaluate-in-Drop.new.tasks c.evaluate-in-Drop.result
    (after_push tasks c.push-in-Drop.new.self _ operands c.in_ok-push-in-Drop.ensures
    ∙ ap (after_all tasks) (drop_done m c.in-Drop.e ∙ ap (λ (x : Stmt). done x m) (sym c.in-Drop.is)))
    c.evaluate-in-Drop.ensures

pub returns-in_ok-push-in-Say : goal.returns-in_ok-push-in-Say
returns-in_ok-push-in-Say c =
    let m = c.args.machine.now in
    let tasks = c.args.tasks.now in
    let operands = all_valued c.in-Say.args m in
    leads_to (after_all c.push-in-Say.new.self operands) (after_all tasks (done c.args.stmt.now m)) c.evaluate_all.new.machine c.evaluate_all.new.tasks c.evaluate_all.result
    (after_push tasks c.push-in-Say.new.self _ operands c.in_ok-push-in-Say.ensures
    ∙ ap (after_all tasks) (say_done m c.in-Say.form c.len.result c.in-Say.args c.len.ensures ∙ ap (λ (x : Stmt). done x m) (sym c.in-Say.is)))
    (rw c.as_slice.ensures at c.evaluate_all.ensures)

pub returns-in-If : goal.returns-in-If
returns-in-If c = rw c.in-If.is c.begin_if.ensures

pub returns-in-Gen : goal.returns-in-Gen
returns-in-Gen c = rw c.in-Gen.is c.begin_event.ensures

pub returns-in-Multi : goal.returns-in-Multi
returns-in-Multi c = rw c.in-Multi.is c.begin_group.ensures

pub returns-in-Return : goal.returns-in-Return
returns-in-Return c = rw c.in-Return.is c.begin_return.ensures
