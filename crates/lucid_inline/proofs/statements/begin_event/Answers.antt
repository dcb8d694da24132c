use Rattle.std.proofs.Common.{◌∙◌, Bool, ap, ap₂}
use Rattle.lucid_core.specs.declared.body.Stmt.TheVariants as s
use Rattle.lucid_inline.specs.Bodies.{after_all, all_valued, both_valued, done, sent_to_one}
use Rattle.lucid_inline.proofs.BodiesLemmas.{after_push, leads_to}
use Rattle.lucid_inline.proofs.StatementsLemmas.{gen_done}
use Rattle.lucid_inline.proofs.statements.begin_event.Goals as goal

pub returns : goal.returns
returns c =
    let m = c.args.machine.now in
    let tasks = c.args.tasks.now in
    let operands = all_valued c.args.args.now m in
    let both = both_valued c.args.delay_first c.args.delay.now c.args.to.now operands in
    leads_to (after_all c.push_both.new.tasks operands) (after_all tasks (done (s.Gen c.args.event c.args.args.now c.args.delay.now c.args.to.now c.args.delay_first) m))
    c.evaluate_all.new.machine c.evaluate_all.new.tasks c.evaluate_all.result
    (c.in_ok-push_both.ensures operands
    ∙ after_push tasks c.push.new.self _ both c.in_ok-push.ensures
    ∙ ap₂ (λ (x y : Bool). after_all tasks (sent_to_one c.args.event c.len.result x y c.args.delay_first both)) c.is_some.ensures c.is_some-2.ensures
    ∙ ap (after_all tasks) (gen_done m c.args.event c.len.result c.args.args.now c.args.delay.now c.args.to.now c.args.delay_first c.len.ensures))
    (rw c.as_slice.ensures at c.evaluate_all.ensures)
