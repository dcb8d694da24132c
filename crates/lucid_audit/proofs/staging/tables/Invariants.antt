use Rattle.std.proofs.Common.{◌≡◌, ◌<◌, ℕ, true, map}
use Rattle.std.specs.List.{range_with_len}
use Rattle.lucid_audit.specs.Audit.{table_at, rows_are_few}
use Rattle.lucid_audit.proofs.staging.tables.Given as goal

abbrev pub invariant-loop-t : goal.invariant-loop-t
invariant-loop-t l =
    (l.tables ≡ map (table_at l.code.ops l.seats l.k) (range_with_len 0 l.t))
    × ((u : ℕ) → u < l.t → rows_are_few l.code.ops l.limits l.seats l.k u ≡ true)
