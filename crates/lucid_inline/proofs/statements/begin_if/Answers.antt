use Rattle.std.proofs.Common.{◌∙◌, List, ap, ap₂}
use Rattle.lucid_core.specs.declared.body.Stmt.{Stmt}
use Rattle.lucid_core.specs.declared.body.Stmt.TheVariants as s
use Rattle.lucid_inline.specs.Bodies.{after_all, branched, done, opened, ran, valued}
use Rattle.lucid_inline.proofs.BodiesLemmas.{after_push, leads_to}
use Rattle.lucid_inline.proofs.StatementsLemmas.{if_done}
use Rattle.lucid_inline.proofs.statements.begin_if.Goals as goal

pub returns : goal.returns
returns c =
    let m = c.args.machine.now in
    let tasks = c.args.tasks.now in
    let test = valued c.args.e.now m in
    let first = ran c.as_slice-2.result.now (opened test) in
    let second = ran c.as_slice.result.now (opened first) in
    leads_to (after_all c.push-5.new.self test) (after_all tasks (done (s.If c.args.e.now c.args.yes.now c.args.no.now) m)) c.evaluate.new.machine c.evaluate.new.tasks c.evaluate.result
    (after_push c.push-4.new.self c.push-5.new.self _ test c.in_ok-push-5.ensures
    ∙ after_push c.push-3.new.self c.push-4.new.self _ (opened test) c.in_ok-push-4.ensures
    ∙ after_push c.push-2.new.self c.push-3.new.self _ first c.in_ok-push-3.ensures
    ∙ after_push c.push.new.self c.push-2.new.self _ (opened first) c.in_ok-push-2.ensures
    ∙ after_push tasks c.push.new.self _ second c.in_ok-push.ensures
    ∙ ap₂ (λ (ys ns : List Stmt). let after = ran ns (opened (ran ys (opened test))) in after_all tasks (branched after.operands after.outer after)) c.as_slice-2.ensures c.as_slice.ensures
    ∙ ap (after_all tasks) (if_done m c.args.e.now c.args.yes.now c.args.no.now))
    c.evaluate.ensures
