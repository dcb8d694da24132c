-- The members of a list, and facts of each two of its elements, the earlier first.
use Rattle.std.proofs.Common.{◌≡◌, ℕ, zero, suc, ◌+◌, ◌<◌, ◌≤◌, List, [], ◌∷◌, ◌++◌, Bool, true, false, ◌⊎◌, inl, inr, if◌then◌else◌, length, map, slice_index_or, refl, sym, ap, subst, ◌∙◌, ⊎_elim, arith}
use Rattle.std.specs.Prelude.{⊤}
use Rattle.std.specs.List.{AllByRecursion, list_all, list_any, filter, flat_map, enumerate_from}
use Rattle.std.proofs.lemmas.Bool.{and_parts, and_from, or_cases, or_left, or_right, true≢false}

abbrev pub In : {A : Type 0} → A → List A → Type 0
In x [] = ⊥
In x (y ∷ ys) = (x ≡ y) ⊎ In x ys

pub in_left : {A : Type 0} (x : A) (xs ys : List A) → In x xs → In x (xs ++ ys)
in_left x [] ys h = absurd h
in_left x (y ∷ xs) ys (inl e) = inl e
in_left x (y ∷ xs) ys (inr h) = inr (in_left x xs ys h)

pub in_right : {A : Type 0} (x : A) (xs ys : List A) → In x ys → In x (xs ++ ys)
in_right x [] ys h = h
in_right x (y ∷ xs) ys h = inr (in_right x xs ys h)

pub in_either : {A : Type 0} (x : A) (xs ys : List A) → In x (xs ++ ys) → In x xs ⊎ In x ys
in_either x [] ys h = inr h
in_either x (y ∷ xs) ys (inl e) = inl (inl e)
in_either x (y ∷ xs) ys (inr h) = ⊎_elim (λ l. inl (inr l)) (λ r. inr r) (in_either x xs ys h)

pub all_in : {A : Type 0} (f : A → Bool) (xs : List A) → list_all f xs ≡ true → (x : A) → In x xs → f x ≡ true
all_in f [] h x i = absurd i
all_in f (y ∷ ys) h x (inl s) = ap f s ∙ (and_parts (f y) (list_all f ys) h).0
all_in f (y ∷ ys) h x (inr r) = all_in f ys (and_parts (f y) (list_all f ys) h).1 x r

pub all_from : {A : Type 0} (f : A → Bool) (xs : List A) → ((x : A) → In x xs → f x ≡ true) → list_all f xs ≡ true
all_from f [] h = refl
all_from f (x ∷ xs) h = and_from (f x) (list_all f xs) (h x (inl refl)) (all_from f xs (λ y i. h y (inr i)))

pub any_from : {A : Type 0} (f : A → Bool) (xs : List A) (x : A) → In x xs → f x ≡ true → list_any f xs ≡ true
any_from f [] x i h = absurd i
any_from f (y ∷ ys) x (inl s) h = or_left (f y) (list_any f ys) (ap f (sym s) ∙ h)
any_from f (y ∷ ys) x (inr r) h = or_right (f y) (list_any f ys) (any_from f ys x r h)

pub at_place : {A : Type 0} (xs : List A) (k : ℕ) (d : A) → k < length xs → In (slice_index_or xs k d) xs
at_place [] k d h = absurd (omega (arith, h))
at_place (x ∷ xs) zero d h = inl refl
at_place (x ∷ xs) (suc k) d h = inr (at_place xs k d (omega (arith, h)))

-- one of those that pass
pub record Passes {A : Type 0} (f : A → Bool) (xs : List A) : Type 0 where
  pub one : A
  pub there : In one xs
  pub passes : f one ≡ true

pub any_gives : {A : Type 0} (f : A → Bool) (xs : List A) → list_any f xs ≡ true → Passes f xs
any_gives f [] h = absurd (true≢false (sym h))
any_gives f (x ∷ xs) h = ⊎_elim (λ e. record { one = x; there = inl refl; passes = e }) (λ e. let rest = any_gives f xs e in record { one = rest.one; there = inr rest.there; passes = rest.passes }) (or_cases (f x) (list_any f xs) h)

pub each_in : {A : Type 0} (P : A → Type 0) (xs : List A) → ((x : A) → In x xs → P x) → AllByRecursion P xs
each_in P [] h = tt
each_in P (x ∷ xs) h = (h x (inl refl), each_in P xs (λ y i. h y (inr i)))

pub from_each : {A : Type 0} (P : A → Type 0) (xs : List A) → AllByRecursion P xs → (x : A) → In x xs → P x
from_each P [] h x i = absurd i
from_each P (y ∷ ys) h x (inl e) = subst P (sym e) h.0
from_each P (y ∷ ys) h x (inr i) = from_each P ys h.1 x i

pub in_map : {A B : Type 0} (f : A → B) (y : B) (xs : List A) → In y (map f xs) → (x : A) × In x xs × (y ≡ f x)
in_map f y [] h = absurd h
in_map f y (x ∷ xs) (inl e) = (x, inl refl, e)
in_map f y (x ∷ xs) (inr i) = let rest = in_map f y xs i in (rest.0, inr rest.1, rest.2)

pub into_map : {A B : Type 0} (f : A → B) (x : A) (xs : List A) → In x xs → In (f x) (map f xs)
into_map f x [] h = absurd h
into_map f x (y ∷ xs) (inl e) = inl (ap f e)
into_map f x (y ∷ xs) (inr i) = inr (into_map f x xs i)

pub in_flat : {A B : Type 0} (f : A → List B) (y : B) (xs : List A) → In y (flat_map f xs) → (x : A) × In x xs × In y (f x)
in_flat f y [] h = absurd h
in_flat f y (x ∷ xs) h = ⊎_elim (λ i. (x, inl refl, i)) (λ r. let rest = in_flat f y xs r in (rest.0, inr rest.1, rest.2)) (in_either y (f x) (flat_map f xs) h)

pub into_flat : {A B : Type 0} (f : A → List B) (y : B) (x : A) (xs : List A) → In x xs → In y (f x) → In y (flat_map f xs)
into_flat f y x [] h i = absurd h
into_flat {A = A} f y x (z ∷ xs) (inl e) i = in_left y (f z) (flat_map f xs) (subst (λ (w : A). In y (f w)) e i)
into_flat f y x (z ∷ xs) (inr h) i = in_right y (f z) (flat_map f xs) (into_flat f y x xs h i)

pub in_filter : {A : Type 0} (f : A → Bool) (x : A) (ys : List A) → In x (filter f ys) → In x ys × (f x ≡ true)
in_filter f x [] h = absurd h
in_filter f x (y ∷ ys) h = by (λ r. in_filter f x ys r) (f y) refl h
  where
    by : (In x (filter f ys) → In x ys × (f x ≡ true)) → (b : Bool) → f y ≡ b → In x (if b then y ∷ filter f ys else filter f ys) → In x (y ∷ ys) × (f x ≡ true)
    by rest true e (inl s) = (inl s, ap f s ∙ e)
    by rest true e (inr r) = (inr (rest r).0, (rest r).1)
    by rest false e r = (inr (rest r).0, (rest r).1)

-- ---- each two

abbrev pub Pairwise : {A : Type 0} → (A → A → Type 0) → List A → Type 0
Pairwise R [] = ⊤
Pairwise {A} R (x ∷ xs) = ((y : A) → In y xs → R x y) × Pairwise R xs

pub pairs_more : {A : Type 0} (R S : A → A → Type 0) → ((x y : A) → R x y → S x y) → (xs : List A) → Pairwise R xs → Pairwise S xs
pairs_more R S f [] h = tt
pairs_more R S f (x ∷ xs) h = ((λ y i. f x y (h.0 y i)), pairs_more R S f xs h.1)

pub record Split {A : Type 0} (R : A → A → Type 0) (xs ys : List A) : Type 0 where
  pub first : Pairwise R xs
  pub second : Pairwise R ys
  pub across : (x : A) → In x xs → (y : A) → In y ys → R x y

pub pairs_split : {A : Type 0} (R : A → A → Type 0) (xs ys : List A) → Pairwise R (xs ++ ys) → Split R xs ys
pairs_split R [] ys h = record { first = tt; second = h; across = λ x i. absurd i }
pairs_split R (x ∷ xs) ys h =
    let rest = pairs_split R xs ys h.1 in
    record {
      first = ((λ y i. h.0 y (in_left y xs ys i)), rest.first);
      second = rest.second;
      across = λ z i y j. ⊎_elim (λ e. subst (λ w. R w y) (sym e) (h.0 y (in_right y xs ys j))) (λ r. rest.across z r y j) i;
    }

pub pairs_join : {A : Type 0} (R : A → A → Type 0) (xs ys : List A) → Split R xs ys → Pairwise R (xs ++ ys)
pairs_join R [] ys s = s.second
pairs_join R (x ∷ xs) ys s = (
  λ y i. ⊎_elim (λ l. s.first.0 y l) (λ r. s.across x (inl refl) y r) (in_either y xs ys i),
  pairs_join R xs ys (record { first = s.first.1; second = s.second; across = λ z i. s.across z (inr i) }),
)

pub pairs_filter : {A : Type 0} (R : A → A → Type 0) (f : A → Bool) (xs : List A) → Pairwise R xs → Pairwise R (filter f xs)
pairs_filter R f [] h = tt
pairs_filter {A} R f (x ∷ xs) h = by (pairs_filter R f xs h.1) (f x)
  where
    by : Pairwise R (filter f xs) → (b : Bool) → Pairwise R (if b then x ∷ filter f xs else filter f xs)
    by rest true = (λ y i. h.0 y (in_filter f y xs i).0, rest)
    by rest false = rest

-- ---- elements with their places

pub numbered : {A : Type 0} (x : A) (n : ℕ) (xs : List A) → In x xs → (m : ℕ) × In (m, x) (enumerate_from n xs)
numbered x n [] h = absurd h
numbered x n (y ∷ xs) (inl e) = (n, inl (ap (λ z. (n, z)) e))
numbered x n (y ∷ xs) (inr i) = let rest = numbered x (n + 1) xs i in (rest.0, inr rest.1)

pub place_from : {A : Type 0} (n : ℕ) (xs : List A) (p : ℕ × A) → In p (enumerate_from n xs) → n ≤ p.0
place_from n [] p h = absurd h
place_from {A = A} n (x ∷ xs) p (inl e) = subst (λ m. n ≤ m) (sym (ap (λ (q : ℕ × A). q.0) e)) (omega arith)
place_from n (x ∷ xs) p (inr i) = let rest = place_from (n + 1) xs p i in omega (arith, rest)

pub element_of : {A : Type 0} (n : ℕ) (xs : List A) (p : ℕ × A) → In p (enumerate_from n xs) → In p.1 xs
element_of n [] p h = absurd h
element_of {A = A} n (x ∷ xs) p (inl e) = inl (ap (λ (q : ℕ × A). q.1) e)
element_of n (x ∷ xs) p (inr i) = inr (element_of (n + 1) xs p i)
