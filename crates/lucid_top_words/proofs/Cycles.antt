-- The names of a cycle, one after another.
use Rattle.std.proofs.Common.{◌≡◌, ℕ, ◌+◌, ◌<◌, List, ◌∷◌, ◌++◌, length, drop, get_or, codes, refl, drop-cons, add-one}
use Rattle.lucid_top_words.specs.Refusal.{names_text}

pub names_text-drop : (names : List (List ℕ)) (i : ℕ) (d shown : List ℕ) → i < length names → shown ≡ get_or names i d →
    names_text (drop i names) ≡ codes " " ++ shown ++ names_text (drop (i + 1) names)
names_text-drop names i d shown lt is =
    let step : drop i names ≡ get_or names i d ∷ drop (i + 1) names = rw add-one (drop-cons names i d lt) in
    rw (step, is) refl
