use Rattle.std.proofs.Common.{◌∙◌, ap}
use Rattle.std.proofs.lemmas.Result.{on_ok_weaker}
use Rattle.lucid_normal.specs.Bodies.{after_all, walk}
use Rattle.lucid_normal.proofs.ListsLemmas.{used_gen, used_hash, used_say}
use Rattle.lucid_normal.proofs.lists.complete.Goals as goal

pub returns-in-Hash : goal.returns-in-Hash
returns-in-Hash c =
    let a = c.args in
    on_ok_weaker c.emit_hash.result
    (λ h. ap (after_all a.tasks.now) (h ∙ used_hash a.purpose.now c.in-Hash.width c.in-Hash.is a.operands (walk a.machine.now)))
    c.emit_hash.ensures

pub returns-in-Gen : goal.returns-in-Gen
returns-in-Gen c =
    let a = c.args in
    let g = c.in-Gen in
    on_ok_weaker c.generate.result
    (λ h. h ∙ ap (after_all a.tasks.now)
    (used_gen a.purpose.now g.event g.delay g.to g.delay_first g.is a.operands (walk a.machine.now)))
    c.generate.ensures

pub returns-in-Say : goal.returns-in-Say
returns-in-Say c =
    let a = c.args in
    on_ok_weaker c.emit_print.result
    (λ h. ap (after_all a.tasks.now) (h ∙ used_say a.purpose.now c.in-Say.form c.in-Say.is a.operands (walk a.machine.now)))
    c.emit_print.ensures
