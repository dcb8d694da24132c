-- Sums that stop at the last number of 64 bits, in place of passing it: counts, sizes and ready times.
use Rattle.std.specs.Prelude.{ℕ, ◌+◌, ◌-◌, ◌^◌, min}

-- the sum, or the last u64 where the sum is beyond it
abbrev pub saturating_sum : ℕ → ℕ → ℕ
saturating_sum a b = min (a + b) (2 ^ 64 - 1)

-- one more; the last u64 stays
abbrev pub saturating_next : ℕ → ℕ
saturating_next n = saturating_sum n 1
