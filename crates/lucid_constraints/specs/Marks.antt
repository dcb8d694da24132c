-- A table that records which pairs of few names exist. Only contracts inside this crate cite this page.
use Rattle.std.specs.Prelude.{◌≡◌, ℕ, ◌+◌, ◌*◌, ◌<◌, Bool, false, if◌then◌else◌, ◌&&◌, nat_eq, nat_lt, List, [], ◌∷◌, ◌++◌, get_or, length, Option}
use Rattle.std.specs.Prelude.{None, Some, IfSome, is_some, true}
use Rattle.std.specs.List.{list_all, list_any}
use Rattle.std.specs.Option.{option_and_then, option_map}
use Rattle.lucid_base.specs.declared.array.ArrayName.{ArrayName}
use Rattle.lucid_base.specs.declared.array.ArrayName.TheVariants.{Global, Param}
use Rattle.lucid_constraints.specs.declared.pair.Atom.{Atom}
use Rattle.lucid_constraints.specs.declared.pair.Atom.TheVariants.{Start, After}
use Rattle.lucid_constraints.specs.declared.pair.Pair.{Pair}
use Rattle.lucid_constraints.specs.Same.{same_pair}

-- the number of one of the first 8 array parameters or 64 declared arrays, as many as a program has
abbrev pub name_number : ArrayName → Option ℕ
name_number (Param i) = if nat_lt i 8 then Some i else None
name_number (Global a) = if nat_lt a 64 then Some (8 + a) else None

abbrev pub atom_number : Atom → Option ℕ
atom_number Start = Some 0
atom_number (After x) = option_map (λ n. 1 + n) (name_number x)

-- the place of a pair in the table
abbrev pub pair_number : Pair → Option ℕ
pair_number p = option_and_then (λ a. option_map (λ n. a * 72 + n) (name_number p.array)) (atom_number p.atom)

-- of a pair for which the table has a place it says whether the pair is among these
abbrev pub Marked : List Bool → List Pair → Type 0
Marked marks pairs = (p : Pair) (n : ℕ) → pair_number p ≡ Some n → n < length marks → get_or marks n false ≡ list_any (same_pair p) pairs

-- the table's answer to a pair's number is whether the pair is there
abbrev pub Tells : List Bool → Option ℕ → Option Bool → Type 0
Tells marks number answer = (p : Pair) (pairs : List Pair) → number ≡ pair_number p → Marked marks pairs → IfSome answer (λ there. there ≡ list_any (same_pair p) pairs)

-- the new table has a pair of this number besides
abbrev pub Notes : List Bool → Option ℕ → List Bool → Type 0
Notes old number new = (p : Pair) (pairs : List Pair) → number ≡ pair_number p → Marked old pairs → Marked new (pairs ++ p ∷ [])

-- how many places the table has: it is made once the pairs are more than 16
abbrev pub places : List Bool → List Pair → ℕ
places marks pairs = if nat_eq (length marks) 0 && nat_lt 16 (length pairs) then 5256 else length marks

-- each has a place in the table
abbrev pub AreNumbered : List Pair → Type 0
AreNumbered pairs = list_all (λ p. is_some (pair_number p)) pairs ≡ true
