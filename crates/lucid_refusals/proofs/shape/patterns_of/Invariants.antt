use Rattle.std.proofs.Common.{◌≡◌, ◌++◌, drop}
use Rattle.lucid_merge.specs.RowCounts.{patterns_of}
use Rattle.lucid_refusals.proofs.shape.patterns_of.Given as goal

-- the rest gives, with the items so far, the result of the whole
abbrev pub invariant-loop-row : goal.invariant-loop-row
invariant-loop-row l = l.patterns ++ patterns_of (drop l.row-index l.rows) ≡ patterns_of l.rows
