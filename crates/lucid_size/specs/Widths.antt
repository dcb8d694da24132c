-- The widths of each template's instances, as code deals them out.
use Rattle.std.specs.Prelude.{ℕ, ◌==◌, if◌then◌else◌, List, [], ◌∷◌, Option, Some, None, slice_get, nat_lt}
use Rattle.std.specs.List.{Contains}
use Rattle.std.specs.List.Sorted.{IsStrictlyIncreasing}
use Rattle.lucid_size.specs.declared.step.Instance.{Instance}

-- the row with one number more: before the first that is above it, and nowhere if it is there
abbrev pub put : ℕ → List ℕ → List ℕ
put x [] = x ∷ []
put x (y ∷ ys) = if nat_lt x y then x ∷ y ∷ ys else (if x == y then y ∷ ys else y ∷ put x ys)

-- the widths of a template's instances, rising
abbrev pub widths_in : List Instance → ℕ → List ℕ
widths_in [] k = []
widths_in (i ∷ is) k = if i.template == k then put i.width (widths_in is k) else widths_in is k

-- this row, if there is one
abbrev pub row_by : Option (List ℕ) → List ℕ
row_by None = []
row_by (Some row) = row

-- the row of this number
abbrev pub row_in : List (List ℕ) → ℕ → List ℕ
row_in rows k = row_by (slice_get rows k)

-- each template's row has the widths of its instances
pub record AreDealt (rows : List (List ℕ)) (found : List Instance) : Type 0 where
  pub only : (k n : ℕ) → Contains (row_in rows k) n → Contains found (record { template = k; width = n })
  pub all : (k n : ℕ) → Contains found (record { template = k; width = n }) → Contains (row_in rows k) n

-- the numbers of the row, each once and rising
pub record IsRisingOf (row sorted : List ℕ) : Type 0 where
  pub rise : IsStrictlyIncreasing sorted
  pub has : (n : ℕ) → Contains row n → Contains sorted n
  pub only : (n : ℕ) → Contains sorted n → Contains row n
