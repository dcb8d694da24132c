use Rattle.std.proofs.Common.{◌∙◌, List, ap, sym}
use Rattle.std.proofs.lemmas.Result.{on_ok_weaker}
use Rattle.lucid_normal_steps.specs.Notes.{before}
use Rattle.lucid_normal_steps.specs.declared.notes.Note.{Note}
use Rattle.lucid_normal.specs.declared.task.Task.{Task}
use Rattle.lucid_normal.specs.declared.task.Task.TheVariants.{Block}
use Rattle.lucid_normal.specs.Bodies.{after_all, after_task, walk}
use Rattle.lucid_normal.proofs.BranchesLemmas.{chooses}
use Rattle.lucid_normal.proofs.branches.choose.Goals as goal

pub returns : goal.returns
returns c =
    let a = c.args in
    let m = a.machine.now in
    let e = c.in_ok-condition.ensures in
    let b = c.begin-begun.ensures in
    let n = walk (record m { guard = c.replace-outer.new.dest; work = c.begin-begun.new.work; env = c.bit.new.env }) in
    on_ok_weaker c.push-2.result
    (λ h. ap (λ (us : List Task). after_all us n) h
    ∙ ap (λ (us : List Task). after_all us (after_task (Block a.yes) n)) c.in_ok-push.ensures
    ∙ ap (after_all a.tasks.now)
    (chooses (walk m) a.needs_move c.needed-test.result a.yes.now a.no.now c.begin-begun.result c.needed-test.ensures
    (ap (λ (ns : List Note). before ns m.env.held) (sym b.notes))
    c.in_ok-condition.condition e.value c.replace-outer.new.dest c.replace-outer.result
    (c.replace-outer.ensures.after ∙ c.in_ok-inner.ensures) c.replace-outer.ensures.value
    _ e.env b.env _ (b.ops ∙ e.ops) _ b.begins))
    c.push-2.ensures
