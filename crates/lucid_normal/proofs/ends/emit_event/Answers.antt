use Rattle.std.proofs.Common.{None, ap, refl}
use Rattle.lucid_normal_spec.specs.declared.env.Env.{Env}
use Rattle.lucid_normal_steps.specs.Notes.{before}
use Rattle.lucid_normal.specs.Bodies.{sent, walk}
use Rattle.lucid_normal.proofs.EndsLemmas.{stepped}
use Rattle.lucid_normal.proofs.ends.emit_event.Goals as goal

pub returns : goal.returns
returns c =
    let a = c.args in
    let s = walk a.machine.now in
    let h = c.in_ok-send.ensures in
    stepped (λ _. None) (sent a.event a.args a.delay a.to) s None refl
    _ h.env _ h.ops _ (ap (λ (e : Env). before a.machine.now.work.notes.items e.held) h.env)
