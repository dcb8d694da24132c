-- Literals that stay in a guard, and literals that an operation requires.
use Rattle.std.proofs.Common.{◌≡◌, ℕ, zero, suc, ◌<◌, ◌≤◌, List, [], ◌∷◌, Bool, true, false, not, ◌&&◌, Some, if◌then◌else◌, length, slice_get, slice_index_or, nat_eq, refl, ap, ◌∙◌, arith}
use Rattle.std.specs.List.{filter, list_any}
use Rattle.std.specs.Option.{option_map_or}
use Rattle.std.proofs.lemmas.Bool.{or_left, or_right}
use Rattle.lucid_code.specs.declared.op.Literal.{Literal}
use Rattle.lucid_code.specs.declared.op.Op.{Op}
use Rattle.lucid_pass_spec.specs.Looks.{same_literal}
use Rattle.lucid_pass_more_spec.specs.Lift.{drops, requires_it}
use Rattle.lucid_pass_more.specs.Lift.{impossible, is_impossible}
use Rattle.lucid_pass_more.specs.Users.{Names, all_at}

found : (ops : List Op) (i : ℕ) (o : Op) → slice_get ops i ≡ Some o → slice_index_or (impossible ops) i false ≡ is_impossible o
found [] i o e = absurd (cc)
found (p ∷ ops) zero o e = (let s : p ≡ o = cc in ap is_impossible s)
found (p ∷ ops) (suc i) o e = found ops i o e

pub requires_by : (ops : List Op) (marks : List Bool) (i : ℕ) (o : Op) (l : Literal) → marks ≡ impossible ops → slice_get ops i ≡ Some o → (not (slice_index_or marks i false) && list_any (same_literal l) o.guard) ≡ requires_it l o
requires_by ops marks i o l m e = ap (λ b. not b && list_any (same_literal l) o.guard) (ap (λ (x : List Bool). slice_index_or x i false) m ∙ found ops i o e) ∙ by (is_impossible o)
  where
    by : (b : Bool) → (not b && list_any (same_literal l) o.guard) ≡ list_any (same_literal l) (if b then [] else o.guard)
    by true = refl
    by false = refl

few : (f : Literal → Bool) (xs : List Literal) → length (filter f xs) ≤ length xs
few f [] = omega arith
few f (x ∷ xs) = by (few f xs) (f x)
  where
    by : length (filter f xs) ≤ length xs → (b : Bool) → length (if b then x ∷ filter f xs else filter f xs) ≤ suc (length xs)
    by rest true = omega (arith, rest)
    by rest false = omega (arith, rest)

-- where none is left out, all are there
pub all_kept : (f : Literal → Bool) (xs : List Literal) → length (filter f xs) ≡ length xs → filter f xs ≡ xs
all_kept f [] e = refl
all_kept f (x ∷ xs) e = by (all_kept f xs) (f x) e
  where
    by : (length (filter f xs) ≡ length xs → filter f xs ≡ xs) → (b : Bool) → length (if b then x ∷ filter f xs else filter f xs) ≡ suc (length xs) → (if b then x ∷ filter f xs else filter f xs) ≡ x ∷ xs
    by rest true e = ap (λ l. x ∷ l) (rest (omega (arith, e)))
    by rest false e = let h = few f xs in absurd (omega (arith, e, h))

-- a literal at some position is in the guard
pub found_in : (l : Literal) (guard : List Literal) (at : ℕ) → option_map_or (same_literal l) (slice_get guard at) false ≡ true → list_any (same_literal l) guard ≡ true
found_in l [] at h = h
found_in l (k ∷ guard) zero h = or_left (same_literal l k) (list_any (same_literal l) guard) h
found_in l (k ∷ guard) (suc at) h = or_right (same_literal l k) (list_any (same_literal l) guard) (found_in l guard at h)

-- the operations at the positions of a field decide what is dropped
pub drops_by : (ops : List Op) (users : List (List ℕ)) (k : ℕ) (l : Literal) (row : List ℕ) (all : Bool) → Names ops ops (length users) users → k < length users → row ≡ slice_index_or users k [] → all ≡ all_at ops (requires_it l) row
    → (not (nat_eq l.field 0) && all) ≡ drops ops k l
drops_by ops users k l row all names below r a = ap (λ b. not (nat_eq l.field 0) && b) (a ∙ ap (all_at ops (requires_it l)) r ∙ names.told k below (requires_it l))
