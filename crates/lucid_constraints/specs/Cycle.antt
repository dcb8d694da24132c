-- Which name must come before which, the numberings that keep to it, and the cycles that leave none.
use Rattle.std.specs.Prelude.{◌≡◌, ◌↔◌, ℕ, ◌<◌, ◌≢◌, ◌⊎◌, List, [], ◌∷◌, Option, None, All, AllPairs, Contains, IfSome, slice_index_or}
use Rattle.std.specs.Global.{Vec}
use Rattle.lucid_base.specs.declared.array.ArrayName.{ArrayName}
use Rattle.lucid_base.specs.declared.array.ArrayName.TheVariants.{Global, Param}
use Rattle.lucid_constraints.specs.declared.pair.Atom.TheVariants.{After}
use Rattle.lucid_constraints.specs.declared.pair.Pair.{Pair}

-- Both are declared, the first earlier.
abbrev pub Earlier : ℕ → ArrayName → ArrayName → Type 0
Earlier arrays (Global a) (Global b) = (a < b) × (b < arrays)
Earlier arrays _ _ = ⊥

-- The first must come before the second, by a pair or by their declarations. A pair with Start asks nothing here.
abbrev pub Needed : ℕ → List Pair → ArrayName → ArrayName → Type 0
Needed arrays pairs x y = Contains pairs (record { atom = After x; array = y }) ⊎ Earlier arrays x y

-- The numbering rises strictly along the declared arrays.
abbrev pub Rises : ℕ → (ArrayName → ℕ) → Type 0
Rises arrays N = (a b : ℕ) → a < b → b < arrays → N (Global a) < N (Global b)

-- Some numbering of all names rises strictly along the constraints.
abbrev pub HasNumbering : (ArrayName → ArrayName → Type 0) → Type 0
HasNumbering needed = (N : ArrayName → ℕ) × ((x y : ArrayName) → needed x y → N x < N y)

-- The first comes first in a cycle: declared arrays by their numbers, array parameters after them.
abbrev pub ComesFirst : ArrayName → ArrayName → Type 0
ComesFirst (Global a) (Global b) = a < b
ComesFirst (Global a) (Param i) = Unit {0}
ComesFirst (Param i) (Global b) = ⊥
ComesFirst (Param i) (Param j) = i < j

-- Each is needed before the next, and the last before this one.
abbrev pub Leads : (ArrayName → ArrayName → Type 0) → List ArrayName → ArrayName → Type 0
Leads needed [] z = Unit {0}
Leads needed (x ∷ xs) z = needed x (slice_index_or xs 0 z) × Leads needed xs z

-- Names without repeats, each needed before the next and the last before the first, beginning with the earliest.
pub record IsCycle (needed : ArrayName → ArrayName → Type 0) (first : ArrayName) (others : List ArrayName) : Type 0 where
  pub distinct : AllPairs (λ x y. x ≢ y) (first ∷ others)
  pub leads : Leads needed (first ∷ others) first
  pub earliest : All (ComesFirst first) others

-- The list is such a cycle.
abbrev pub FormsCycle : (ArrayName → ArrayName → Type 0) → List ArrayName → Type 0
FormsCycle needed [] = ⊥
FormsCycle needed (first ∷ others) = IsCycle needed first others

-- The answer is None exactly where there is a numbering, and else a cycle.
pub record FindsCycle (needed : ArrayName → ArrayName → Type 0) (answer : Option (Vec ArrayName)) : Type 0 where
  pub none : (answer ≡ None) ↔ HasNumbering needed
  pub cycle : IfSome answer (λ names. FormsCycle needed names.items)
