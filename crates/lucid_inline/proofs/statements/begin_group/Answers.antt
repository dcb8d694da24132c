use Rattle.std.proofs.Common.{◌∙◌, Bool, List, ℕ, ap, ap₂}
use Rattle.lucid_core.specs.declared.body.Stmt.TheVariants as s
use Rattle.lucid_inline.specs.Bodies.{after_all, all_valued, done, if_valued, sent_to_each}
use Rattle.lucid_inline.proofs.BodiesLemmas.{after_push, leads_to}
use Rattle.lucid_inline.proofs.StatementsLemmas.{multi_done}
use Rattle.lucid_inline.proofs.statements.begin_group.Goals as goal

pub returns : goal.returns
returns c =
    let m = c.args.machine.now in
    let tasks = c.args.tasks.now in
    let operands = all_valued c.args.args.now m in
    let after = if_valued c.args.delay.now operands in
    leads_to (after_all c.push_value.new.tasks operands) (after_all tasks (done (s.Multi c.args.event c.args.args.now c.args.delay.now c.args.members.now) m))
    c.evaluate_all.new.machine c.evaluate_all.new.tasks c.evaluate_all.result
    (c.in_ok-push_value.ensures operands
    ∙ after_push tasks c.push.new.self _ after c.in_ok-push.ensures
    ∙ ap₂ (λ (x : Bool) (members : List ℕ). after_all tasks (sent_to_each c.args.event c.len.result x members after.operands after)) c.is_some.ensures c.as_slice.ensures
    ∙ ap (after_all tasks) (multi_done m c.args.event c.len.result c.args.args.now c.args.delay.now c.args.members.now c.len.ensures))
    (rw c.as_slice-2.ensures at c.evaluate_all.ensures)
