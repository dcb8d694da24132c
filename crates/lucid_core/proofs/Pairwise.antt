-- Two lists, related place by place.
use Rattle.std.proofs.Common.{List, [], ◌∷◌, ◌++◌}

module _ {A B : Type 0} (R : A → B → Type 0) where
  abbrev pub Pairwise : List A → List B → Type 0
  Pairwise [] [] = Unit {0}
  Pairwise (x ∷ xs) (y ∷ ys) = R x y × Pairwise xs ys
  Pairwise _ _ = ⊥

  -- one more on both sides
  pub one_more : (xs : List A) (ys : List B) (x : A) (y : B) → Pairwise xs ys → R x y → Pairwise (xs ++ x ∷ []) (ys ++ y ∷ [])
  one_more [] [] x y all last = (last, tt)
  one_more (a ∷ xs) (b ∷ ys) x y all last = (all.0, one_more xs ys x y all.1 last)
  one_more [] (b ∷ ys) x y all last = absurd all
  one_more (a ∷ xs) [] x y all last = absurd all
