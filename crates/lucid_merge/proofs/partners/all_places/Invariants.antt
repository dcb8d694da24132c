use Rattle.std.proofs.Common.{◌≡◌, ◌++◌, drop, length}
use Rattle.lucid_merge.specs.Standing.{rows_at}
use Rattle.lucid_merge.proofs.partners.all_places.Given as goal

-- the rows at the positions so far, and the rest, are all rows
abbrev pub invariant-loop-place : goal.invariant-loop-place
invariant-loop-place l = (rows_at l.rows l.all.items ++ drop l.place l.rows ≡ l.rows) × (length l.all.items ≡ l.place)
