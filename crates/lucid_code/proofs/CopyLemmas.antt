-- Lists that are made item by item, as copies are.
use Rattle.std.proofs.Common.{◌≡◌, ◌∙◌, ◌<◌, ◌+◌, ℕ, List, [], ◌∷◌, ◌++◌, ap, ap₂, sym, length, map, take, slice_index_or}
use Rattle.std.proofs.lemmas.List.{map_more, take_more}

pub made_more : {A B : Type 0} (f : A → B) (xs : List A) (i : ℕ) (x : A) (y : B) (ys zs : List B) → i < length xs → x ≡ slice_index_or xs i x → y ≡ f x
    → ys ≡ map f (take i xs) → zs ≡ ys ++ y ∷ [] → zs ≡ map f (take (i + 1) xs)
made_more {A} {B} f xs i x y ys zs less is made before pushed =
    pushed ∙ ap₂ (λ (l : List B) (z : B). l ++ z ∷ []) before (made ∙ ap f is) ∙ sym (map_more f xs i x less)

pub copied_more : {A : Type 0} (xs : List A) (i : ℕ) (x : A) (ys zs : List A) → i < length xs → x ≡ slice_index_or xs i x
    → ys ≡ take i xs → zs ≡ ys ++ x ∷ [] → zs ≡ take (i + 1) xs
copied_more {A} xs i x ys zs less is before pushed =
    pushed ∙ ap₂ (λ (l : List A) (z : A). l ++ z ∷ []) before is ∙ sym (take_more xs i x less)
