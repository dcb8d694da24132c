use Rattle.std.proofs.Common.{◌≡◌, drop, length}
use Rattle.std.specs.List.{AllByRecursion}
use Rattle.lucid_stages.specs.Marks.{end_marks, zeros, Within}
use Rattle.lucid_stages.proofs.marks.ends.Given as goal

-- the rest gives, from the marks so far, the result of the whole
abbrev pub invariant-loop-at : goal.invariant-loop-at
invariant-loop-at l =
    (length l.ends.items ≡ l.fields)
    × AllByRecursion (λ w. Within l.fields w.writes) (drop l.at l.nodes)
    × (end_marks l.ends.items l.at (drop l.at l.nodes) ≡ end_marks (zeros l.fields) 0 l.nodes)
