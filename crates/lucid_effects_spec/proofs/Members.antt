-- Members of lists, and of lists of paths one after another.
use Rattle.std.proofs.Common.{◌≡◌, ℕ, zero, suc, ◌<◌, List, [], ◌∷◌, ◌++◌, length, map, refl, ap, subst, arith, slice_index_or, ◌⊎◌, inl, inr}
use Rattle.std.specs.Prelude.{Contains}
use Rattle.lucid_constraints.specs.Circle.{Member}
use Rattle.lucid_constraints.proofs.MemberLemmas.{member_left, member_right, member_split}
use Rattle.lucid_effects_spec.specs.Paths.{Path, each_then}

pub in_map : {A B : Type 0} (f : A → B) (y : A) (xs : List A) → Member y xs → Member (f y) (map f xs)
in_map f y [] h = h
in_map f y (x ∷ xs) (inl e) = inl (ap f e)
in_map f y (x ∷ xs) (inr h) = inr (in_map f y xs h)

pub of_map : {A B : Type 0} (f : A → B) (z : B) (xs : List A) → Member z (map f xs) → (y : A) × Member y xs × (f y ≡ z)
of_map f z [] h = absurd h
of_map f z (x ∷ xs) (inl e) = (x, inl refl, e)
of_map f z (x ∷ xs) (inr h) = let rest = of_map f z xs h in (rest.0, inr rest.1, rest.2)

pub in_then : (p q : Path) (ps qs : List Path) → Member p ps → Member q qs → Member (p ++ q) (each_then ps qs)
in_then p q [] qs h k = absurd h
in_then p q (x ∷ ps) qs (inl e) k = member_left (p ++ q) (map (λ r. x ++ r) qs) (each_then ps qs) (subst (λ (z : Path). Member (z ++ q) (map (λ r. x ++ r) qs)) e (in_map (λ r. x ++ r) q qs k))
in_then p q (x ∷ ps) qs (inr h) k = member_right (p ++ q) (map (λ r. x ++ r) qs) (each_then ps qs) (in_then p q ps qs h k)

pub of_then : (r : Path) (ps qs : List Path) → Member r (each_then ps qs) → (p : Path) × (q : Path) × Member p ps × Member q qs × (p ++ q ≡ r)
of_then r [] qs h = absurd h
of_then r (x ∷ ps) qs h = of (member_split r (map (λ q. x ++ q) qs) (each_then ps qs) h) (of_then r ps qs)
  where
    of : Member r (map (λ q. x ++ q) qs) ⊎ Member r (each_then ps qs) → (Member r (each_then ps qs) → (p : Path) × (q : Path) × Member p ps × Member q qs × (p ++ q ≡ r)) →
        (p : Path) × (q : Path) × ((x ≡ p) ⊎ Member p ps) × Member q qs × (p ++ q ≡ r)
    of (inl k) later = let found = of_map (λ q. x ++ q) r qs k in (x, found.0, inl refl, found.1, found.2)
    of (inr k) later = let found = later k in (found.0, found.1, inr found.2, found.3, found.4)

pub in_at : {A : Type 0} (xs : List A) (k : ℕ) (d : A) → k < length xs → Member (slice_index_or xs k d) xs
in_at [] k d l = absurd (omega arith)
in_at (x ∷ xs) zero d l = inl refl
in_at (x ∷ xs) (suc k) d l = inr (in_at xs k d (omega arith))

pub contains : {A : Type 0} (y : A) (xs : List A) → Member y xs → Contains xs y
contains y [] h = absurd h
contains y (x ∷ xs) (inl e) = (0, omega arith, e)
contains y (x ∷ xs) (inr h) = let rest = contains y xs h in let within = rest.1 in (suc rest.0, omega arith, rest.2)
