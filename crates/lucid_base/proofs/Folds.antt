-- A fold over lists that are joined is a fold of folds.
use Rattle.std.proofs.Common.{◌≡◌, List, [], ◌∷◌, ◌∙◌, refl}
use Rattle.std.specs.List.{fold, flat_map}
use Rattle.std.proofs.lemmas.List.Sums.{fold-append}

pub fold-flat_map : {A B X : Type 0} (f : B → A → B) (g : X → List A) (b : B) (xs : List X) →
    fold f b (flat_map g xs) ≡ fold (λ c x. fold f c (g x)) b xs
fold-flat_map f g b [] = refl
fold-flat_map f g b (x ∷ xs) = fold-append f b (g x) (flat_map g xs) ∙ fold-flat_map f g (fold f b (g x)) xs
