-- The places of `%d` in a text.
use Rattle.std.proofs.Common.{◌≡◌, ℕ, ◌+◌, ◌<◌, ◌≤◌, List, [], ◌∷◌, drop, length, get_or, if◌then◌else◌, refl, sym, ap, ◌∙◌, arith, add-one, drop-cons}
use Rattle.std.proofs.lemmas.List.{length-drop}
use Rattle.lucid_core.specs.Texts.{holes_of}
use Rattle.lucid_types_statements.specs.Bodies.{is_hole}

one_more : (text : List ℕ) (at : ℕ) → at < length text → drop at text ≡ get_or text at 0 ∷ drop (at + 1) text
one_more text at h = drop-cons text at 0 h ∙ ap (λ (k : ℕ). get_or text at 0 ∷ drop k text) (sym (add-one at))

pub holes_at : (text : List ℕ) (at : ℕ) → at + 1 < length text →
    holes_of (drop at text) ≡ (if is_hole (get_or text at 0) (get_or text (at + 1) 0) then holes_of (drop (at + 2) text) + 1 else holes_of (drop (at + 1) text))
holes_at text at h =
    let first = one_more text at (omega arith) in
    let two : at + 1 + 1 ≡ at + 2 = omega arith in
    let second = one_more text (at + 1) h ∙ ap (λ (k : ℕ). get_or text (at + 1) 0 ∷ drop k text) two in
    ap holes_of (first ∙ ap (λ (xs : List ℕ). get_or text at 0 ∷ xs) second)
    ∙ ap (λ (xs : List ℕ). if is_hole (get_or text at 0) (get_or text (at + 1) 0) then holes_of (drop (at + 2) text) + 1 else holes_of xs) (sym second)

short : (xs : List ℕ) → length xs ≤ 1 → holes_of xs ≡ 0
short [] h = refl
short (x ∷ []) h = refl
short (x ∷ y ∷ xs) h = absurd (omega (arith, h))

pub no_holes : (text : List ℕ) (at : ℕ) → length text ≤ at + 1 → holes_of (drop at text) ≡ 0
no_holes text at h = let rest = length-drop at text in short (drop at text) (omega arith)
