use Rattle.std.proofs.Common.{◌∙◌, ap}
use Rattle.lucid_normal_spec.specs.declared.env.Env.{Env}
use Rattle.lucid_normal_spec.specs.declared.env.Typed.{Typed}
use Rattle.lucid_normal_steps.specs.Notes.{before}
use Rattle.lucid_normal.specs.Bodies.{expressed, touched, walk}
use Rattle.lucid_normal.proofs.EndsLemmas.{stepped, touched_held}
use Rattle.lucid_normal.proofs.ends.emit_touch.Goals as goal

pub returns : goal.returns
returns c =
    let a = c.args in
    let s = walk a.machine.now in
    let h = c.in_ok-machine.ensures in
    let x = c.needed-set_arg.result in
    stepped (λ v. v) (touched a.t.now (a.index, (a.get_arg, x))) s c.in_ok-machine.field-0 h.value
    _ h.env _ h.ops _
    (ap (λ (e : Env). before a.machine.now.work.notes.items e.held) h.env
    ∙ ap (before a.machine.now.work.notes.items) (touched_held a.t.now (a.index, (a.get_arg, x)) a.machine.now.env))
    ∙ ap (λ (z : Typed). expressed (touched a.t.now (a.index, (a.get_arg, z))) s) c.needed-set_arg.ensures
