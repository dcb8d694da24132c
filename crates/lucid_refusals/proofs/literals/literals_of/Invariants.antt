use Rattle.std.proofs.Common.{◌≡◌, drop}
use Rattle.std.specs.List.{fold}
use Rattle.lucid_merge.specs.Product.{with_literal}
use Rattle.lucid_merge.specs.RowCounts.{patterns_of}
use Rattle.lucid_refusals.specs.Refusal.{literals_of}
use Rattle.lucid_refusals.proofs.literals.literals_of.Given as goal

-- the rest gives, with the items so far, the result of the whole
abbrev pub invariant-loop-row : goal.invariant-loop-row
invariant-loop-row l = fold (fold with_literal) l.literals (patterns_of (drop l.row-index l.rows)) ≡ literals_of (patterns_of l.rows)
