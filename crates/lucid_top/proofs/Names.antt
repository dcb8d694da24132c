-- The lines of passes: their names, as the code reads them and as a view of the passes has them, and one line after another.
use Rattle.std.proofs.Common.{◌≡◌, ℕ, ◌+◌, ◌<◌, ◌≤◌, ◌⊎◌, inl, inr, List, [], ◌∷◌, ◌++◌, ap, add-one, drop, drop-cons, get_or, length, map, refl, sym, take, ◌∙◌}
use Rattle.std.proofs.lemmas.List.{drop_all, map_more}
use Rattle.lucid_top.specs.Layout.{pass_line, passes_text}
use Rattle.lucid_pass_spec.specs.Replace.{Rewrite}
use Rattle.lucid_top_fit.specs.Passes.{PassView, passes_view}

pub names-of : {B : Type 0} (called : B → List ℕ) (gives : B → Rewrite) (count : B → ℕ) (passes : List B) → map called passes ≡ map PassView.name (passes_view called gives count passes)
names-of called gives count [] = refl
names-of called gives count (p ∷ passes) = ap (λ (names : List (List ℕ)). called p ∷ names) (names-of called gives count passes)

-- one name more
pub names-next : {B : Type 0} (called : B → List ℕ) (passes : List B) (i : ℕ) (b : B) → i < length passes → b ≡ get_or passes i b →
    map called (take (i + 1) passes) ≡ map called (take i passes) ++ called b ∷ []
names-next {B} called passes i b lt is = map_more called passes i b lt ∙ ap (λ (x : B). map called (take i passes) ++ called x ∷ []) (sym is)

-- the line of the next pass, and then those of the passes to come
pub passes_text-drop : (names : List (List ℕ)) (gone : List ℕ) (i : ℕ) (name : List ℕ) (n other : ℕ) → i < length names → i < length gone → name ≡ get_or names i name → n ≡ get_or gone i other →
    passes_text (drop i names) (drop i gone) ≡ pass_line name n ++ passes_text (drop (i + 1) names) (drop (i + 1) gone)
passes_text-drop names gone i name n other lt lt' is is' =
    let a : drop i names ≡ get_or names i name ∷ drop (i + 1) names = rw add-one (drop-cons names i name lt) in
    let b : drop i gone ≡ get_or gone i other ∷ drop (i + 1) gone = rw add-one (drop-cons gone i other lt') in
    let a' : drop i names ≡ name ∷ drop (i + 1) names = a ∙ ap (λ (x : List ℕ). x ∷ drop (i + 1) names) (sym is) in
    let b' : drop i gone ≡ n ∷ drop (i + 1) gone = b ∙ ap (λ (x : ℕ). x ∷ drop (i + 1) gone) (sym is') in
    ap (λ (l : List (List ℕ)). passes_text l (drop i gone)) a' ∙ ap (passes_text (name ∷ drop (i + 1) names)) b'

-- no pass is left
passes_text-none : (names : List (List ℕ)) → passes_text names [] ≡ []
passes_text-none [] = refl
passes_text-none (name ∷ names) = refl

pub passes_text-end : (names : List (List ℕ)) (gone : List ℕ) (i : ℕ) → (length names ≤ i) ⊎ (length gone ≤ i) → passes_text (drop i names) (drop i gone) ≡ []
passes_text-end names gone i past = elim past [
  | inl le ↦ ap (λ (l : List (List ℕ)). passes_text l (drop i gone)) (drop_all i names le)
  | inr le ↦ ap (passes_text (drop i names)) (drop_all i gone le) ∙ passes_text-none (drop i names)
]
