-- Lists without repeats are short.
use Rattle.std.proofs.Common.{◌≡◌, ◌⊎◌, inl, inr, ℕ, suc, ◌<◌, ◌≤◌, Bool, true, false, if◌then◌else◌, ◌||◌, nat_eq, List, [], ◌∷◌, ◌++◌, map, length, refl, sym, ap, subst, arith}
use Rattle.std.specs.List.{AllByRecursion, IsDistinct, list_any}
use Rattle.std.proofs.lemmas.Bool.Decides.{nat_tests}
use Rattle.std.proofs.lemmas.Map.Keys.{IsDistinct-cons}
use Rattle.std.proofs.lemmas.Map.Steps.{length-le_from_distinct_below}
use Rattle.lucid_constraints.specs.Circle.{Distinct, Member}
use Rattle.lucid_constraints.specs.Same.{join_all, joined}
use Rattle.lucid_constraints.proofs.MemberLemmas.{member_split}

abbrev pub Each : {A : Type 0} → (A → Type 0) → List A → Type 0
Each P [] = Unit {0}
Each P (x ∷ xs) = P x × Each P xs

pub each_joined : {A : Type 0} (P : A → Type 0) (same : A → A → Bool) (xs : List A) (x : A) → Each P xs → P x → Each P (joined same xs x)
each_joined {A = A} P same xs x h p = of (list_any (same x) xs) (push xs h)
  where
    of : (b : Bool) → Each P (xs ++ x ∷ []) → Each P (if b then xs else xs ++ x ∷ [])
    of true k = h
    of false k = k

    push : (ys : List A) → Each P ys → Each P (ys ++ x ∷ [])
    push [] k = (p, tt)
    push (y ∷ ys) k = (k.0, push ys k.1)

pub each_join_all : {A : Type 0} (P : A → Type 0) (same : A → A → Bool) (xs ys : List A) → Each P xs → Each P ys → Each P (join_all same xs ys)
each_join_all P same xs [] h k = h
each_join_all P same xs (y ∷ ys) h k = each_join_all P same (joined same xs y) ys (each_joined P same xs y h k.0) k.1

-- ---- numbers below m

differs : (x : ℕ) (xs : List ℕ) → ¬ Member x xs → AllByRecursion (λ y. nat_eq x y ≡ false) xs
differs x [] none = tt
differs x (y ∷ xs) none = (of (nat_eq x y) refl, differs x xs (λ h. none (inr h)))
  where
    of : (b : Bool) → nat_eq x y ≡ b → b ≡ false
    of true e = let is : y ≡ x = grind (arith, nat_tests) in absurd (none (inl is))
    of false e = refl

apart : (xs : List ℕ) → Distinct xs → IsDistinct nat_eq xs
unfolding IsDistinct
apart [] d = tt
apart (x ∷ xs) d = IsDistinct-cons nat_eq x xs (differs x xs d.0) (apart xs d.1)

below : (m : ℕ) (xs : List ℕ) → Each (λ x. x < m) xs → (q : ℕ) → list_any (nat_eq q) xs ≡ true → q < m
below m [] h q is = absurd (cc)
below m (x ∷ xs) h q is = of (nat_eq q x) refl is (below m xs h.1 q)
  where
    of : (b : Bool) → nat_eq q x ≡ b → (b || list_any (nat_eq q) xs) ≡ true → (list_any (nat_eq q) xs ≡ true → q < m) → q < m
    of true e k more = let l = h.0 in grind (arith, nat_tests)
    of false e k more = more k

few : (m : ℕ) (xs : List ℕ) → Distinct xs → Each (λ x. x < m) xs → length xs ≤ m
few m xs d h = length-le_from_distinct_below xs m (apart xs d) (below m xs h)

-- ---- lists that grow by `joined`, with a number for each item

distinct-push : (x : ℕ) (xs : List ℕ) → Distinct xs → ¬ Member x xs → Distinct (xs ++ x ∷ [])
distinct-push x [] d none = ((λ h. h), tt)
distinct-push x (y ∷ xs) d none = ((λ h. of (member_split y xs (x ∷ []) h)), distinct-push x xs d.1 (λ k. none (inr k)))
  where
    of : Member y xs ⊎ Member y (x ∷ []) → ⊥
    of (inl k) = d.0 k
    of (inr (inl e)) = none (inl (sym e))
    of (inr (inr k)) = k

module _ {A : Type 0} (In : A → Type 0) (code : A → ℕ) (same : A → A → Bool) (tells : (x y : A) → In x → In y → code y ≡ code x → same x y ≡ true) where
  abbrev pub Apart : List A → Type 0
  Apart xs = Each In xs × Distinct (map code xs)

  fresh : (x : A) (xs : List A) → In x → Each In xs → list_any (same x) xs ≡ false → ¬ Member (code x) (map code xs)
  fresh x [] i h none m = m
  fresh x (y ∷ xs) i h none (inl e) = let yes = tells x y i h.0 e in cc
  fresh x (y ∷ xs) i h none (inr m) = of (same x y) refl (λ more. fresh x xs i h.1 more m)
    where
      of : (b : Bool) → same x y ≡ b → (list_any (same x) xs ≡ false → ⊥) → ⊥
      of true e again = cc
      of false e again = let more : list_any (same x) xs ≡ false = cc in again more

  each-push : (x : A) (xs : List A) → In x → Each In xs → Each In (xs ++ x ∷ [])
  each-push x [] i h = (i, tt)
  each-push x (y ∷ xs) i h = (h.0, each-push x xs i h.1)

  map-push : (x : A) (xs : List A) → map code (xs ++ x ∷ []) ≡ map code xs ++ code x ∷ []
  map-push x [] = refl
  map-push x (y ∷ xs) = ap (λ ys. code y ∷ ys) (map-push x xs)

  pub apart-joined : (xs : List A) (x : A) → Apart xs → In x → Apart (joined same xs x)
  apart-joined xs x h i = of (list_any (same x) xs) refl
    where
      of : (b : Bool) → list_any (same x) xs ≡ b → Apart (if b then xs else xs ++ x ∷ [])
      of true e = h
      of false e = (each-push x xs i h.0, subst (λ (ns : List ℕ). Distinct ns) (sym (map-push x xs)) (distinct-push (code x) (map code xs) h.1 (fresh x xs i h.0 e)))

  pub apart-join_all : (xs ys : List A) → Apart xs → Each In ys → Apart (join_all same xs ys)
  apart-join_all xs [] h i = h
  apart-join_all xs (y ∷ ys) h i = apart-join_all (joined same xs y) ys (apart-joined xs y h i.0) i.1

  below_all : (m : ℕ) → ((x : A) → In x → code x < m) → (xs : List A) → Each In xs → Each (λ n. n < m) (map code xs)
  below_all m h [] i = tt
  below_all m h (x ∷ xs) i = (h x i.0, below_all m h xs i.1)

  map-length : (xs : List A) → length (map code xs) ≡ length xs
  map-length [] = refl
  map-length (x ∷ xs) = ap suc (map-length xs)

  pub apart-few : (m : ℕ) → ((x : A) → In x → code x < m) → (xs : List A) → Apart xs → length xs ≤ m
  apart-few m h xs d = let l = few m (map code xs) d.1 (below_all m h xs d.0) in let e = map-length xs in omega (arith, l, e)
