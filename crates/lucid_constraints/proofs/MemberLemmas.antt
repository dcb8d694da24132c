-- Members of lists, and tests of which one holds.
use Rattle.std.proofs.Common.{◌≡◌, ◌⊎◌, inl, inr, ℕ, zero, suc, ◌<◌, Bool, true, false, ◌||◌, List, [], ◌∷◌, ◌++◌, length, get_or, refl, arith}
use Rattle.lucid_constraints.specs.Circle.{Member}

pub or_left : (s t : Bool) → s ≡ true → (s || t) ≡ true
or_left true t e = refl
or_left false t e = cc

pub or_right : (s t : Bool) → t ≡ true → (s || t) ≡ true
or_right true t e = refl
or_right false t e = e

pub member_left : {A : Type 0} (y : A) (xs ys : List A) → Member y xs → Member y (xs ++ ys)
member_left y [] ys m = absurd m
member_left y (x ∷ xs) ys (inl e) = inl e
member_left y (x ∷ xs) ys (inr m) = inr (member_left y xs ys m)

pub member_right : {A : Type 0} (y : A) (xs ys : List A) → Member y ys → Member y (xs ++ ys)
member_right y [] ys m = m
member_right y (x ∷ xs) ys m = inr (member_right y xs ys m)

pub member_split : {A : Type 0} (y : A) (xs ys : List A) → Member y (xs ++ ys) → Member y xs ⊎ Member y ys
member_split y [] ys m = inr m
member_split y (x ∷ xs) ys (inl e) = inl (inl e)
member_split y (x ∷ xs) ys (inr m) = of (member_split y xs ys m)
  where
    of : Member y xs ⊎ Member y ys → Member y (x ∷ xs) ⊎ Member y ys
    of (inl k) = inl (inr k)
    of (inr k) = inr k

pub member_at : {A : Type 0} (xs : List A) (k : ℕ) (d : A) → k < length xs → Member (get_or xs k d) xs
member_at [] k d h = absurd (omega arith)
member_at (x ∷ xs) zero d h = inl refl
member_at (x ∷ xs) (suc k) d h = inr (member_at xs k d (omega arith))

pub place_of_member : {A : Type 0} (z d : A) (xs : List A) → Member z xs → (k : ℕ) × (k < length xs) × (get_or xs k d ≡ z)
place_of_member z d [] m = absurd m
place_of_member z d (x ∷ xs) (inl e) = (0, omega arith, e)
place_of_member z d (x ∷ xs) (inr m) = let more = place_of_member z d xs m in (suc more.0, omega (arith, more.1), more.2)
