use Rattle.std.proofs.Common.{◌∙◌, None, ap, refl, sym}
use Rattle.std.proofs.lemmas.List.{append-nil}
use Rattle.lucid_normal_spec.specs.declared.env.Typed.{Typed}
use Rattle.lucid_normal_spec.specs.Translate.{return_made}
use Rattle.lucid_normal.specs.Bodies.{finished, walk}
use Rattle.lucid_normal.proofs.EndsLemmas.{stepped}
use Rattle.lucid_normal.proofs.ends.return_value.Goals as goal

pub returns : goal.returns
returns c =
    let a = c.args in
    let s = walk a.machine.now in
    let h = c.in_ok-answer.ensures in
    stepped (λ _. None) (return_made c.needed-t.result) s None refl
    _ h.env _ (h.ops ∙ sym (append-nil s.ops)) _ h.back
    ∙ ap (λ (z : Typed). finished (return_made z) s) c.needed-t.ensures
