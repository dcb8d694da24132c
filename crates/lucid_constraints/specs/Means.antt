-- The meaning of pairs and ends for a numbering of the arrays.
use Rattle.std.specs.Prelude.{ℕ, ◌+◌, max, Bool, true, if◌then◌else◌, ◌&&◌, nat_le, List, [], ◌∷◌, Option, Some, None}
use Rattle.lucid_base.specs.declared.array.ArrayName.{ArrayName}
use Rattle.lucid_constraints.specs.declared.pair.Atom.{Atom}
use Rattle.lucid_constraints.specs.declared.pair.Atom.TheVariants.{Start, After}
use Rattle.lucid_constraints.specs.declared.pair.Pair.{Pair}

-- the number of the place, in a body that begins at `c`
abbrev pub place_of : (ArrayName → ℕ) → ℕ → Atom → ℕ
place_of N c Start = c
place_of N c (After x) = N x + 1

-- the place is at or before the array
abbrev pub allows : (ArrayName → ℕ) → ℕ → Pair → Bool
allows N c p = nat_le (place_of N c p.atom) (N p.array)

-- so it is in each pair
abbrev pub allow_all : (ArrayName → ℕ) → ℕ → List Pair → Bool
allow_all N c [] = true
allow_all N c (p ∷ ps) = allows N c p && allow_all N c ps

-- the greatest of the places, where the body ends
abbrev pub greatest : (ArrayName → ℕ) → ℕ → List Atom → ℕ
greatest N c [] = 0
greatest N c (x ∷ xs) = max (place_of N c x) (greatest N c xs)

-- where a body with these needs and ends ends, if the needs hold
abbrev pub read : (ArrayName → ℕ) → ℕ → List Pair → List Atom → Option ℕ
read N c needs ends = if allow_all N c needs then Some (greatest N c ends) else None
