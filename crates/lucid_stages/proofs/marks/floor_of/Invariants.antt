use Rattle.std.proofs.Common.{◌≡◌, max, drop}
use Rattle.lucid_stages.specs.Marks.{floor}
use Rattle.lucid_stages.proofs.marks.floor_of.Given as goal

-- the maximum of the rest and of the marks so far is that of the whole
abbrev pub invariant-loop-field : goal.invariant-loop-field
invariant-loop-field l = max l.most (floor l.marks (drop l.field-index l.fields)) ≡ floor l.marks l.fields
