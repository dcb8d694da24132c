use Rattle.std.proofs.Common.{◌∙◌, ap}
use Rattle.lucid_normal_spec.specs.declared.env.Env.{Env}
use Rattle.lucid_normal_spec.specs.declared.env.Typed.{Typed}
use Rattle.lucid_normal_steps.specs.Notes.{before}
use Rattle.lucid_normal.specs.Bodies.{comparison, expressed, walk}
use Rattle.lucid_normal.proofs.EndsLemmas.{stepped}
use Rattle.lucid_normal.proofs.ends.emit_comparison.Goals as goal

pub returns : goal.returns
returns c =
    let a = c.args in
    let s = walk a.machine.now in
    let h = c.in_ok-machine.ensures in
    stepped (λ v. v) (comparison a.op a.x c.needed-y.result) s c.in_ok-machine.field-0 h.value
    _ h.env _ h.ops _ (ap (λ (e : Env). before a.machine.now.work.notes.items e.held) h.env)
    ∙ ap (λ (z : Typed). expressed (comparison a.op a.x z) s) c.needed-y.ensures
