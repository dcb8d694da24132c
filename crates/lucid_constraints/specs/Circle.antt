-- The search for a cycle, as tests: constraints, names in a circle, and the result of each step of the search. Only contracts inside this
-- crate cite this page.
use Rattle.std.specs.Prelude.{◌⊎◌, ◌≡◌, ℕ, ◌+◌, ◌<◌, Bool, true, false, if◌then◌else◌, ◌&&◌, ◌||◌, nat_lt, List, [], ◌∷◌, ◌++◌, get_or, length, take}
use Rattle.std.specs.Prelude.{drop, Option, Some, None}
use Rattle.std.specs.List.{list_any}
use Rattle.lucid_base.specs.declared.array.ArrayName.{ArrayName}
use Rattle.lucid_base.specs.declared.array.ArrayName.TheVariants.{Global, Param}
use Rattle.lucid_constraints.specs.declared.look.Found.{Found}
use Rattle.lucid_constraints.specs.declared.look.Found.TheVariants.{OnPath, Waiting, Gone, Nowhere}
use Rattle.lucid_constraints.specs.declared.pair.Atom.{Atom}
use Rattle.lucid_constraints.specs.declared.pair.Atom.TheVariants.{Start, After}
use Rattle.lucid_constraints.specs.declared.pair.Pair.{Pair}
use Rattle.lucid_constraints.specs.Same.{same_name, same_atom, same_pair, join_all}

-- whether both are declared, the first earlier
abbrev pub earlier : ℕ → ArrayName → ArrayName → Bool
earlier n (Global a) (Global b) = nat_lt a b && nat_lt b n
earlier n (Global a) (Param b) = false
earlier n (Param a) y = false

-- whether a pair asks that the first comes before the second
abbrev pub asked : List Pair → ArrayName → ArrayName → Bool
asked ps x y = list_any (same_pair (record { atom = After x; array = y })) ps

-- whether the first must come before the second
abbrev pub needed : List Pair → ℕ → ArrayName → ArrayName → Bool
needed ps n x y = asked ps x y || earlier n x y

-- y is one of these
abbrev pub Member : {A : Type 0} → A → List A → Type 0
Member y [] = ⊥
Member y (x ∷ xs) = (x ≡ y) ⊎ Member y xs

-- the things of which P holds have strictly rising numbers
abbrev pub OrderOn : {A : Type 0} → (A → A → Bool) → (A → Type 0) → Type 0
OrderOn {A} before P = (N : A → ℕ) × ((x y : A) → P x → P y → before x y ≡ true → N x < N y)

-- these include all names that must precede or follow another
abbrev pub Covers : (ArrayName → ArrayName → Bool) → List ArrayName → Type 0
Covers before names = (x y : ArrayName) → before x y ≡ true → Member x names × Member y names

-- these include the first `n` declared arrays
abbrev pub HasDeclared : ℕ → List ArrayName → Type 0
HasDeclared n names = (a : ℕ) → a < n → Member (Global a) names

-- the names of a pair that asks for an order of two
abbrev pub named_by : Atom → ArrayName → List ArrayName
named_by Start y = []
named_by (After x) y = x ∷ y ∷ []

abbrev pub named : Pair → List ArrayName
named p = named_by p.atom p.array

-- the names of all pairs, joined to those that are done
abbrev pub named_from : List ArrayName → List Pair → List ArrayName
named_from done [] = done
named_from done (p ∷ ps) = named_from (join_all same_name done (named p)) ps

-- each comes before the next, and the last before z
abbrev pub Leads : {A : Type 0} → (A → A → Bool) → List A → A → Type 0
Leads before [] z = Unit {0}
Leads before (x ∷ xs) z = (before x (get_or xs 0 z) ≡ true) × Leads before xs z

-- none occurs twice
abbrev pub Distinct : {A : Type 0} → List A → Type 0
Distinct [] = Unit {0}
Distinct (x ∷ xs) = ¬ Member x xs × Distinct xs

-- none occurs in it twice, each comes before the next, and the last before the first
pub record IsCircle {A : Type 0} (before : A → A → Bool) (xs : List A) : Type 0 where
  pub some : 0 < length xs
  pub distinct : Distinct xs
  pub closed : (d : A) → Leads before xs (get_or xs 0 d)

-- the pair asks that the name comes before another
abbrev pub follows : ArrayName → Pair → Bool
follows x p = same_atom p.atom (After x)

-- the first name that pairs put before x
abbrev pub source_by : Atom → Bool → Option ArrayName → Option ArrayName
source_by Start found later = later
source_by (After y) true later = Some y
source_by (After y) false later = later

abbrev pub source : ArrayName → List Pair → Option ArrayName
source x [] = None
source x (p ∷ ps) = source_by p.atom (same_name x p.array) (source x ps)

-- the place of the first that passes, where the list begins at this one
abbrev pub first_place : {A : Type 0} → (A → Bool) → List A → ℕ → Option ℕ
first_place p [] at = None
first_place p (x ∷ xs) at = if p x then Some at else first_place p xs (at + 1)

-- the position of one that must precede the head of the path
abbrev pub Finds : List ArrayName → List ArrayName → List Pair → ℕ → ArrayName → Found → Type 0
Finds path waiting ps n x (OnPath j) = (j < length path) × (needed ps n (get_or path j x) x ≡ true)
Finds path waiting ps n x (Waiting i) = (i < length waiting) × (needed ps n (get_or waiting i x) x ≡ true) × ¬ Member (get_or waiting i x) path
Finds path waiting ps n x (Gone y) = (asked ps y x ≡ true) × ¬ Member y path × ¬ Member y waiting
Finds path waiting ps n x Nowhere = (y : ArrayName) → Member y path ⊎ Member y waiting → needed ps n y x ≡ false

-- whether the first comes first in a cycle
abbrev pub comes_first : ArrayName → ArrayName → Bool
comes_first (Global a) (Global b) = nat_lt a b
comes_first (Global a) (Param b) = true
comes_first (Param a) (Global b) = false
comes_first (Param a) (Param b) = nat_lt a b

-- none of the names comes before the one at this place
pub record IsEarliest (names : List ArrayName) (at : ℕ) : Type 0 where
  pub within : at < length names
  pub none_before : (k : ℕ) (d : ArrayName) → k < length names → comes_first (get_or names k d) (get_or names at d) ≡ false

-- the names from the earliest on, and then those before it
abbrev pub Turned : List ArrayName → List ArrayName → Type 0
Turned old new = (at : ℕ) × IsEarliest old at × (new ≡ drop at old ++ take at old)
