-- The number of the last that has a name: one more name in the map, and that the number is one of the list.
use Rattle.std.proofs.Common.{◌≡◌, ℕ, zero, suc, ◌+◌, ◌<◌, ◌≤◌, Bool, true, false, List, [], ◌∷◌, Option, Some, None, IfSome}
use Rattle.std.proofs.Common.{length, drop, map, refl, subst, arith, if◌then◌else◌}
use Rattle.std.proofs.lemmas.List.{length-map}
use Rattle.std.specs.List.{slice_index_or}
use Rattle.std.specs.Str.{bytes_eq}
use Rattle.lucid_conf.specs.Named.{last_from, last_named}

-- A step of the loop over the declarations is a step of `last_from`.
pub next : {A : Type 0} (f : A → List ℕ) (n : List ℕ) (xs : List A) (i k : ℕ) (found : Option ℕ) (d : A) → i < length xs →
    last_from n (suc k) (if bytes_eq n (f (slice_index_or xs i d)) then Some k else found) (drop (suc i) (map f xs)) ≡ last_from n k found (drop i (map f xs))
next f n [] i k found d less = absurd (omega (arith, less))
next f n (y ∷ ys) zero k found d less = refl
next f n (y ∷ ys) (suc i) k found d less = next f n ys i k found d (omega (arith, less))

chosen : (b : Bool) (n m : ℕ) (found : Option ℕ) → n < m → IfSome found (λ i. i < m) → IfSome (if b then Some n else found) (λ i. i < m)
chosen true n m found less small = less
chosen false n m found less small = small

within_from : (name : List ℕ) (n m : ℕ) (found : Option ℕ) (names : List (List ℕ)) → n + length names ≤ m → IfSome found (λ i. i < m) →
    IfSome (last_from name n found names) (λ i. i < m)
within_from name n m found [] few small = small
within_from name n m found (x ∷ xs) few small =
    let less = chosen (bytes_eq name x) n m found (omega (arith, few)) small in
    within_from name (suc n) m (if bytes_eq name x then Some n else found) xs (omega (arith, few)) less

pub within : {A : Type 0} (f : A → List ℕ) (name : List ℕ) (xs : List A) (i : ℕ) → last_named name (map f xs) ≡ Some i → i < length xs
within f name xs i is =
    subst (λ (o : Option ℕ). IfSome o (λ i. i < length xs)) is (within_from name 0 (length xs) None (map f xs) (omega (arith, length-map xs f)) tt)
