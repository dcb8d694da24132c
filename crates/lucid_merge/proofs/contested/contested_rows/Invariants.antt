use Rattle.std.proofs.Common.{◌≡◌, ◌++◌, map, drop}
use Rattle.lucid_merge.specs.Contested.{contested_row}
use Rattle.lucid_merge.proofs.contested.contested_rows.Given as goal

-- what was found so far, and what the rest has, are those of all rows
abbrev pub invariant-loop-row : goal.invariant-loop-row
invariant-loop-row l = l.found.items ++ map (contested_row l.lone) (drop l.row-index l.rows) ≡ map (contested_row l.lone) l.rows
