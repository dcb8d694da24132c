use Rattle.std.proofs.Common.{◌≡◌, ◌<◌, ℕ, true, map}
use Rattle.std.specs.List.{range_with_len}
use Rattle.lucid_audit.specs.Audit.{stage_at, tables_in, rows_are_few}
use Rattle.lucid_audit.proofs.staging.stages.Given as goal

abbrev pub invariant-loop-k : goal.invariant-loop-k
invariant-loop-k l =
    (l.stages.items ≡ map (stage_at l.code.ops l.seats) (range_with_len 0 l.k))
    × ((j u : ℕ) → j < l.k → u < tables_in j l.seats → rows_are_few l.code.ops l.limits l.seats j u ≡ true)
