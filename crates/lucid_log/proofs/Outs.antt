-- The lines of the outs, one after another.
use Rattle.std.proofs.Common.{◌≡◌, ℕ, ◌+◌, ◌<◌, Bool, List, ◌∷◌, ◌++◌, length, get_or, drop, ◌∙◌, sym, ap, drop-cons, add-one}
use Rattle.lucid_base.specs.declared.event.Out.{Out}
use Rattle.lucid_core.specs.Parts.{CoreParts}
use Rattle.lucid_log.specs.Block.{is_marked, out_text, outs_text}

pub outs_text-drop : (core : CoreParts) (lost : ℕ) (outs : List Out) (i : ℕ) (out : Out) (b : Bool) → i < length outs → out ≡ get_or outs i out → b ≡ is_marked lost i →
    outs_text core lost i (drop i outs) ≡ out_text core out b ++ outs_text core lost (i + 1) (drop (i + 1) outs)
outs_text-drop core lost outs i out b lt is marked =
    let step : drop i outs ≡ get_or outs i out ∷ drop (i + 1) outs = rw add-one (drop-cons outs i out lt) in
    ap (λ (l : List Out). outs_text core lost i l) (step ∙ ap (λ (o : Out). o ∷ drop (i + 1) outs) (sym is))
    ∙ ap (λ (m : Bool). out_text core out m ++ outs_text core lost (i + 1) (drop (i + 1) outs)) (sym marked)
