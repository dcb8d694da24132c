use Rattle.std.proofs.Common.{◌∙◌, None, refl, sym}
use Rattle.std.proofs.lemmas.List.{append-nil}
use Rattle.lucid_normal_spec.specs.Translate.{return_none}
use Rattle.lucid_normal.specs.Bodies.{walk}
use Rattle.lucid_normal.proofs.EndsLemmas.{stepped}
use Rattle.lucid_normal.proofs.ends.return_nothing.Goals as goal

pub returns : goal.returns
returns c =
    let a = c.args in
    let s = walk a.machine.now in
    let h = c.in_ok-answer_nothing.ensures in
    stepped (λ _. None) return_none s None refl
    _ h.env _ (h.ops ∙ sym (append-nil s.ops)) _ h.back
