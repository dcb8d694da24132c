-- A running sum, and where it passes a bound.
use Rattle.std.specs.Prelude.{◌≡◌, ℕ, ◌+◌, ◌<◌, ◌≤◌, List, Option, None, Some, length, sum, take}
use Rattle.lucid_inline_count.specs.declared.sums.Sum.{Sum}
use Rattle.lucid_inline_count.specs.Counts.{capped}

-- The sum of the first of these.
abbrev pub sum_of_first : ℕ → List ℕ → ℕ
sum_of_first k ns = capped (sum (take k ns))

-- The place at which the running sum first passes the bound; none where the whole sum doesn't.
abbrev pub FirstPast : ℕ → List ℕ → Option ℕ → Type 0
FirstPast bound ns None = capped (sum ns) ≤ bound
FirstPast bound ns (Some k) = (k < length ns) × (sum_of_first k ns ≤ bound) × (bound < sum_of_first (k + 1) ns)

pub record IsSum (bound : ℕ) (ns : List ℕ) (s : Sum) : Type 0 where
  pub total : s.total ≡ capped (sum ns)
  pub passed : FirstPast bound ns s.passed
