use Rattle.std.proofs.Common.{rules, ◌≡◌, ◌∙◌, List, [], ◌∷◌, None, Some, ap, drop, length, take}
use Rattle.std.specs.Prelude.{slice_get}
use Rattle.lucid_core.specs.declared.body.Expr.TheVariants as e
use Rattle.lucid_core.specs.declared.body.Stmt.{Stmt}
use Rattle.lucid_inline.specs.Bodies.{after_all, entered, left, ran, with_call}
use Rattle.lucid_inline.specs.declared.machine.Machine.{Machine}
use Rattle.lucid_inline.specs.declared.task.Task.TheVariants.{Leave}
use Rattle.lucid_inline.proofs.BodiesLemmas.{after_push, leads}
use Rattle.lucid_inline.proofs.CallsLemmas.{call_none, call_some}
use Rattle.lucid_inline.proofs.calls.call.Goals as goal

pub returns-in-None : goal.returns-in-None
returns-in-None c =
    let m = c.args.machine.now in
    let tasks = c.args.tasks.now in
    let is : slice_get m.funs.now c.args.k ≡ None = search rules in
    let same : c.take_given.new.machine ≡ record m { operands = drop c.args.n m.operands } = search rules in
    leads (after_all tasks (with_call c.args.k c.args.names.now c.args.n m)) c.inlined.new.machine tasks c.inlined.result _ c.inlined.ensures
    (λ kept. ap (after_all tasks) (kept ∙ ap (λ (q : Machine). record q { operands = e.Inlined c.in_ok-given.given [] ∷ q.operands }) same
    ∙ call_none m c.args.k c.args.n c.args.names.now c.in_ok-given.given is c.in_ok-given.ensures.given))

pub returns-in_ok-push-in-Some : goal.returns-in_ok-push-in-Some
returns-in_ok-push-in-Some c =
    let m = c.args.machine.now in
    let tasks = c.args.tasks.now in
    let f = c.in-Some.f.now in
    let is : slice_get m.funs.now c.args.k ≡ Some f = search rules in
    let at : c.in-Some.before.now ≡ take c.args.k m.funs.now = search rules in
    let same : c.take_given.new.machine ≡ record m { operands = drop c.args.n m.operands } = search rules in
    let inside : c.enter.new.machine ≡ entered c.args.names.now c.in_ok-given.given (length m.locals) c.in-Some.before f (record m { operands = drop c.args.n m.operands }) =
    c.in_ok-enter-in-Some.ensures ∙ ap (λ (q : Machine). entered c.args.names.now c.in_ok-given.given (length q.locals) c.in-Some.before f q) same in
    leads (after_all tasks (with_call c.args.k c.args.names.now c.args.n m)) c.enter.new.machine c.push-in-Some.new.self c.push-in-Some.result _ c.push-in-Some.ensures
    (λ pushed. after_push c.push.new.self c.push-in-Some.new.self _ c.enter.new.machine pushed
    ∙ after_push tasks c.push.new.self Leave (ran c.as_slice.result.now c.enter.new.machine) c.in_ok-push-in-Some.ensures
    ∙ ap (λ (body : List Stmt). let after = ran body c.enter.new.machine in after_all tasks (left after.callers after)) c.as_slice.ensures
    ∙ ap (λ (q : Machine). let after = ran f.body q in after_all tasks (left after.callers after)) inside
    ∙ ap (after_all tasks) (call_some m c.args.k c.args.n c.args.names.now c.in_ok-given.given c.in-Some.before f is at c.in_ok-given.ensures.given))
