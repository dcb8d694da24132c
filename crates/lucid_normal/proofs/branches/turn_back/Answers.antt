use Rattle.std.proofs.Common.{◌∙◌, List, ap}
use Rattle.std.proofs.lemmas.Result.{on_ok_weaker}
use Rattle.lucid_normal.specs.declared.task.Task.{Task}
use Rattle.lucid_normal.specs.declared.task.Task.TheVariants.{Block}
use Rattle.lucid_normal.specs.Bodies.{after_all, after_task, walk}
use Rattle.lucid_normal.proofs.BranchesLemmas.{turns}
use Rattle.lucid_normal.proofs.branches.turn_back.Goals as goal

pub returns : goal.returns
returns c =
    let a = c.args in
    let m = a.machine.now in
    let t = c.in_ok-turned.ensures in
    let n = walk (record m { guard = c.in_ok-machine.field-0; work = c.turn.new.work; env = c.turn.new.env }) in
    on_ok_weaker c.push-2.result
    (λ h. ap (λ (us : List Task). after_all us n) h
    ∙ ap (λ (us : List Task). after_all us (after_task (Block a.no) n)) c.in_ok-push.ensures
    ∙ ap (after_all a.tasks.now)
    (turns (walk m) a.begun a.condition a.outer a.no.now c.in_ok-machine.field-0 c.in_ok-machine.ensures
    _ t.env _ t.ops _ t.begins _ t.notes c.in_ok-turned.turned.first t.first))
    c.push-2.ensures
