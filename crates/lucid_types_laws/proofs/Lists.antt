-- Lists by place.
use Rattle.std.proofs.Common.{◌≡◌, ℕ, zero, suc, ◌+◌, ◌<◌, ◌≤◌, ◌⊎◌, inl, inr, List, [], ◌∷◌, ◌++◌, Option, None, Some, Bool, true, false, ◌&&◌, ◌||◌, length, map, take, drop, nat_eq, refl, sym, ap, ◌∙◌, slice_get, slice_set, arith}
use Rattle.std.specs.List.{list_all, enumerate_from, starts_with}
use Rattle.std.specs.Option.{option_map}
use Rattle.std.specs.Cmp.Lexicographic.{pointwise}
use Rattle.std.proofs.lemmas.Bool.{and_from, and_parts}
use Rattle.std.proofs.lemmas.Bool.Decides.{nat_tests}
use Rattle.std.proofs.lemmas.Option.{slice_get-map}
use Rattle.std.proofs.lemmas.List.Folds.{list_all-append}
use Rattle.lucid_base.specs.Numbers.{is_in}
use Rattle.lucid_core_laws.proofs.Parts.{same_widths}
use Rattle.lucid_core.proofs.Grown.{get_before, get_last}

-- ---- lists that grow

-- What stands at a place stays there.
abbrev pub Grows : {A : Type 0} → List A → List A → Type 0
Grows {A} xs ys = (i : ℕ) (x : A) → slice_get xs i ≡ Some x → slice_get ys i ≡ Some x

pub grows_itself : {A : Type 0} (xs : List A) → Grows xs xs
grows_itself xs i x h = h

pub grows_end : {A : Type 0} (xs : List A) (y : A) → Grows xs (xs ++ y ∷ [])
grows_end xs y i x h = get_before xs y i x h

some_of : {A B : Type 0} (f : A → B) (o : Option A) (y : B) → option_map f o ≡ Some y → (x : A) × (o ≡ Some x) × (f x ≡ y)
some_of f None y h = absurd (cc)
some_of f (Some x) y h = let same : f x ≡ y = cc in (x, refl, same)

pub grows_map : {A B : Type 0} (f : A → B) (xs ys : List A) → Grows xs ys → Grows (map f xs) (map f ys)
grows_map f xs ys g i y h =
    let x = some_of f (slice_get xs i) y (sym (slice_get-map f xs i) ∙ h) in
    slice_get-map f ys i ∙ ap (option_map f) (g i x.0 x.1) ∙ ap (λ z. Some z) x.2

pub front_of : {A : Type 0} (xs ys : List A) → Grows xs ys → take (length xs) ys ≡ xs
front_of [] ys h = refl
front_of (x ∷ xs) [] h = let no : None ≡ Some x = h 0 x refl in absurd (cc)
front_of (x ∷ xs) (y ∷ ys) h =
    let is : Some y ≡ Some x = h 0 x refl in
    let same : y ≡ x = cc in
    ap (λ zs. y ∷ zs) (front_of xs ys (λ i z at. h (suc i) z at)) ∙ ap (λ z. z ∷ xs) same

pub no_shorter : {A : Type 0} (xs ys : List A) → Grows xs ys → length xs ≤ length ys
no_shorter [] ys h = omega arith
no_shorter (x ∷ xs) [] h = let no : None ≡ Some x = h 0 x refl in absurd (cc)
no_shorter (x ∷ xs) (y ∷ ys) h = let rest = no_shorter xs ys (λ i z at. h (suc i) z at) in omega (arith, rest)

pub begins : (xs ys : List ℕ) → Grows xs ys → starts_with nat_eq ys xs ≡ true
begins xs ys h = ap (λ zs. pointwise nat_eq xs zs) (front_of xs ys h) ∙ same_widths xs

-- ---- tests

pub all_end : {A : Type 0} (test : A → Bool) (xs : List A) (x : A) → list_all test xs ≡ true → test x ≡ true → list_all test (xs ++ x ∷ []) ≡ true
all_end test xs x h is = list_all-append test xs (x ∷ []) ∙ and_from _ _ h (and_from _ _ is refl)

pub both_all : {A : Type 0} (one two : A → Bool) (xs : List A) → list_all one xs ≡ true → list_all two xs ≡ true → list_all (λ x. one x && two x) xs ≡ true
both_all one two [] h g = refl
both_all one two (x ∷ xs) h g =
    let a = and_parts _ _ h in
    let b = and_parts _ _ g in
    and_from _ _ (and_from _ _ a.0 b.0) (both_all one two xs a.1 b.1)

-- ---- places

later : (k i : ℕ) → k ≤ i → nat_eq k i ≡ false → k + 1 ≤ i
later k i low h = grind (arith, nat_tests)

or_by : (a b : Bool) → (a ≡ false → b ≡ true) → a || b ≡ true
or_by true b h = refl
or_by false b h = h refl

pub places_have : {A : Type 0} (xs : List A) (k i : ℕ) → k ≤ i → i < k + length xs → is_in i (map (λ p. p.0) (enumerate_from k xs)) ≡ true
places_have [] k i low high = absurd (omega (arith, low, high))
places_have (x ∷ xs) k i low high = or_by (nat_eq k i) _ (λ h. places_have xs (k + 1) i (later k i low h) (omega (arith, high)))

pub places_after : {A : Type 0} (test : ℕ → Bool) (xs : List A) (k n : ℕ) → ((i : ℕ) → k + n ≤ i → i < k + length xs → test i ≡ true) →
    list_all test (drop n (map (λ p. p.0) (enumerate_from k xs))) ≡ true
places_after test [] k zero h = refl
places_after test [] k (suc n) h = refl
places_after test (x ∷ xs) k zero h =
    and_from _ _ (h k (omega arith) (omega arith)) (places_after test xs (k + 1) zero (λ i low high. h i (omega (arith, low)) (omega (arith, high))))
places_after test (x ∷ xs) k (suc n) h = places_after test xs (k + 1) n (λ i low high. h i (omega (arith, low)) (omega (arith, high)))

-- ---- one more, and one in another's place

pub last_of_map : {A B : Type 0} (f : A → B) (xs : List A) (x : A) → slice_get (map f (xs ++ x ∷ [])) (length xs) ≡ Some (f x)
last_of_map f xs x = slice_get-map f (xs ++ x ∷ []) (length xs) ∙ ap (option_map f) (get_last xs x)

pub got_last : {A : Type 0} (xs : List A) (y : A) (i : ℕ) (x : A) → slice_get (xs ++ y ∷ []) i ≡ Some x → (slice_get xs i ≡ Some x) ⊎ ((i ≡ length xs) × (y ≡ x))
got_last [] y zero x h = let same : y ≡ x = cc in inr (refl, same)
got_last [] y (suc i) x h = absurd (cc)
got_last (z ∷ xs) y zero x h = inl h
got_last (z ∷ xs) y (suc i) x h = next (got_last xs y i x h)
  where
    next : (slice_get xs i ≡ Some x) ⊎ ((i ≡ length xs) × (y ≡ x)) → (slice_get xs i ≡ Some x) ⊎ ((suc i ≡ suc (length xs)) × (y ≡ x))
    next (inl old) = inl old
    next (inr new) = inr (ap (λ n. suc n) new.0, new.1)

pub got_set : {A : Type 0} (xs : List A) (i : ℕ) (y : A) (j : ℕ) (x : A) → slice_get (slice_set xs i y) j ≡ Some x → ((i ≡ j) × (y ≡ x)) ⊎ (slice_get xs j ≡ Some x)
got_set [] i y j x h = inr h
got_set (z ∷ xs) zero y zero x h = let same : y ≡ x = cc in inl (refl, same)
got_set (z ∷ xs) zero y (suc j) x h = inr h
got_set (z ∷ xs) (suc i) y zero x h = inr h
got_set (z ∷ xs) (suc i) y (suc j) x h = next (got_set xs i y j x h)
  where
    next : ((i ≡ j) × (y ≡ x)) ⊎ (slice_get xs j ≡ Some x) → ((suc i ≡ suc j) × (y ≡ x)) ⊎ (slice_get xs j ≡ Some x)
    next (inl new) = inl (ap (λ n. suc n) new.0, new.1)
    next (inr old) = inr old

pub set_there : {A : Type 0} (xs : List A) (i : ℕ) (x y : A) → slice_get xs i ≡ Some x → slice_get (slice_set xs i y) i ≡ Some y
set_there [] i x y h = absurd (cc)
set_there (z ∷ xs) zero x y h = refl
set_there (z ∷ xs) (suc i) x y h = set_there xs i x y h

pub set_elsewhere : {A : Type 0} (xs : List A) (i : ℕ) (y : A) (j : ℕ) (x : A) → slice_get xs j ≡ Some x → (slice_get (slice_set xs i y) j ≡ Some x) ⊎ (i ≡ j)
set_elsewhere [] i y j x h = absurd (cc)
set_elsewhere (z ∷ xs) zero y zero x h = inr refl
set_elsewhere (z ∷ xs) zero y (suc j) x h = inl h
set_elsewhere (z ∷ xs) (suc i) y zero x h = inl h
set_elsewhere (z ∷ xs) (suc i) y (suc j) x h = next (set_elsewhere xs i y j x h)
  where
    next : (slice_get (slice_set xs i y) j ≡ Some x) ⊎ (i ≡ j) → (slice_get (slice_set xs i y) j ≡ Some x) ⊎ (suc i ≡ suc j)
    next (inl old) = inl old
    next (inr new) = inr (ap (λ n. suc n) new)

pub map-set : {A B : Type 0} (f : A → B) (xs : List A) (i : ℕ) (x y : A) → slice_get xs i ≡ Some x → f y ≡ f x → map f (slice_set xs i y) ≡ map f xs
map-set f [] i x y h e = absurd (cc)
map-set f (z ∷ xs) zero x y h e = let same : z ≡ x = cc in ap (λ w. w ∷ map f xs) (e ∙ ap f (sym same))
map-set f (z ∷ xs) (suc i) x y h e = ap (λ ws. f z ∷ ws) (map-set f xs i x y h e)
