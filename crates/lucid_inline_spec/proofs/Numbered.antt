-- Numbers in a list, and the numbers that parts of a list get from some number on.
use Rattle.std.proofs.Common.{◌≡◌, ◌⊎◌, inl, inr, ℕ, zero, suc, ◌+◌, ◌<◌, ◌≤◌, List, [], ◌∷◌, ◌++◌, true, Some, length, map, sym, ap, subst, ◌∙◌, arith, nat_eq, slice_get}
use Rattle.std.specs.List.{enumerate_from}
use Rattle.std.proofs.lemmas.Bool.{eqb-true, eq-eqb, or_cases, or_left, or_right}
use Rattle.lucid_base.specs.Numbers.{is_in}
use Rattle.lucid_inline_spec.proofs.Locals.{Begins}

abbrev pub numbers_of : {A : Type 0} → ℕ → List A → List ℕ
numbers_of {A} b xs = map (λ (g : ℕ × A). g.0) (enumerate_from b xs)

pub number_there : {A : Type 0} (xs : List A) (b i : ℕ) → i < length xs → is_in (b + i) (numbers_of b xs) ≡ true
number_there [] b i h = absurd (omega arith)
number_there (x ∷ xs) b zero h = let z : b + 0 ≡ b = omega arith in or_left _ _ (eq-eqb b (b + 0) (sym z))
number_there {A = A} (x ∷ xs) b (suc i) h = let e : b + suc i ≡ b + 1 + i = omega arith in or_right _ _ (ap (λ (n : ℕ). is_in n (numbers_of (b + 1) xs)) e ∙ number_there xs (b + 1) i (omega arith))

pub number_within : {A : Type 0} (xs : List A) (b i : ℕ) → is_in i (numbers_of b xs) ≡ true → (b ≤ i) × (i < b + length xs)
number_within [] b i h = absurd (cc)
number_within {A = A} (x ∷ xs) b i h = of (or_cases _ _ h) (number_within xs (b + 1) i)
  where
    of : (nat_eq b i ≡ true) ⊎ (is_in i (numbers_of (b + 1) xs) ≡ true) → (is_in i (numbers_of (b + 1) xs) ≡ true → (b + 1 ≤ i) × (i < b + 1 + length xs)) → (b ≤ i) × (i < b + suc (length xs))
    of (inl e) rest = let same = eqb-true b i e in (omega arith, omega arith)
    of (inr e) rest = let both = rest e in let l = both.0 in let u = both.1 in (omega arith, omega arith)

-- An item at a position is there in a longer list, and after another list.
pub slice_begins : (xs ys : List ℕ) → Begins xs ys → (i w : ℕ) → slice_get xs i ≡ Some w → slice_get ys i ≡ Some w
slice_begins xs ys b i w h = subst (λ (zs : List ℕ). slice_get zs i ≡ Some w) (sym b.1) (left xs b.0 i h)
  where
    left : (us vs : List ℕ) (j : ℕ) → slice_get us j ≡ Some w → slice_get (us ++ vs) j ≡ Some w
    left [] vs j k = absurd (cc)
    left (u ∷ us) vs zero k = k
    left (u ∷ us) vs (suc j) k = left us vs j k

pub slice_behind : (xs ys : List ℕ) (i : ℕ) → slice_get (xs ++ ys) (length xs + i) ≡ slice_get ys i
slice_behind [] ys i = let e : 0 + i ≡ i = omega arith in ap (slice_get ys) e
slice_behind (x ∷ xs) ys i = let e : suc (length xs) + i ≡ suc (length xs + i) = omega arith in ap (slice_get (x ∷ (xs ++ ys))) e ∙ slice_behind xs ys i
