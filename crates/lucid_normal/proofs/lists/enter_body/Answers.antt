use Rattle.std.proofs.Common.{◌∙◌, List, ap, sym}
use Rattle.std.proofs.lemmas.Result.{on_ok_weaker}
use Rattle.lucid_normal_steps.specs.Notes.{before}
use Rattle.lucid_normal_steps.specs.declared.notes.Note.{Note}
use Rattle.lucid_normal.specs.declared.task.Task.{Task}
use Rattle.lucid_normal.specs.declared.task.Task.TheVariants.{Block}
use Rattle.lucid_normal.specs.Bodies.{after_all, after_task, walk}
use Rattle.lucid_normal.proofs.ListsLemmas.{entered}
use Rattle.lucid_normal.proofs.lists.enter_body.Goals as goal

pub returns : goal.returns
returns c =
    let a = c.args in
    let e = c.in_ok-caller.ensures in
    let m = a.machine.now in
    let n = walk (record m { work = c.enter.new.work; env = c.enter.new.env }) in
    on_ok_weaker c.push-2.result
    (λ h. ap (λ (ts : List Task). after_all ts n) h
    ∙ ap (λ (ts : List Task). after_all ts (after_task (Block a.stmts) n)) c.in_ok-push.ensures
    ∙ ap (after_all a.tasks.now)
    (entered (walk m) a.held a.stmts.now c.in_ok-caller.caller (ap (λ (ns : List Note). before ns m.env.held) (sym e.caller.0)) e.caller.1
    _ e.env _ e.ops _ e.back))
    c.push-2.ensures
