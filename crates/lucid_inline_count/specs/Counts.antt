-- Counts that stop at the last u64.
use Rattle.std.specs.Prelude.{ℕ, ◌-◌, ◌^◌, List, min, slice_get, unwrap_or}
use Rattle.lucid_base.specs.Saturating.{saturating_sum}
use Rattle.lucid_inline_count.specs.declared.counts.Counts.{Counts}

-- The number, or the last u64 where it is beyond it.
abbrev pub capped : ℕ → ℕ
capped n = min n (2 ^ 64 - 1)

abbrev pub counted : ℕ → ℕ → Counts
counted length size = record { length = length; size = size }

abbrev pub plus : Counts → Counts → Counts
plus c d = record { length = saturating_sum c.length d.length; size = saturating_sum c.size d.size }

-- Of function k; nothing where there is none.
abbrev pub counts_at : List Counts → ℕ → Counts
counts_at funs k = unwrap_or (slice_get funs k) (counted 0 0)
