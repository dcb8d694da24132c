use Rattle.std.proofs.Common.{◌∙◌, None, ap, refl}
use Rattle.lucid_normal_spec.specs.declared.env.Typed.{Typed}
use Rattle.lucid_normal_spec.specs.Translate.{assign}
use Rattle.lucid_normal.specs.Bodies.{finished, walk}
use Rattle.lucid_normal.proofs.EndsLemmas.{stepped}
use Rattle.lucid_normal.proofs.ends.assign_local.Goals as goal

pub returns : goal.returns
returns c =
    let a = c.args in
    let s = walk a.machine.now in
    let h = c.in_ok-assign.ensures in
    stepped (λ _. None) (assign a.local c.needed-t.result) s None refl
    _ h.env _ h.ops _ h.back
    ∙ ap (λ (z : Typed). finished (assign a.local z) s) c.needed-t.ensures
