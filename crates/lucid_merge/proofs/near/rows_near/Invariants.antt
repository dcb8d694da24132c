use Rattle.std.proofs.Common.{◌≡◌, ◌≤◌, ◌++◌, drop, length}
use Rattle.std.specs.List.{filter}
use Rattle.lucid_merge.specs.Standing.{may_stand, rows_at}
use Rattle.lucid_merge.proofs.near.rows_near.Given as goal

-- the rows at the positions, and the compatible ones of the rest, are the compatible ones
abbrev pub invariant-loop-place : goal.invariant-loop-place
invariant-loop-place l =
    (rows_at l.rows l.places ++ filter (may_stand l.field l.rest) (drop l.place l.rows) ≡ filter (may_stand l.field l.rest) l.rows)
    × (length l.places ≤ l.place)
