use Rattle.std.proofs.Common.{◌≡◌, drop}
use Rattle.lucid_pass.specs.Marks.{marked}
use Rattle.lucid_pass.proofs.marks.mark_all.Given as goal

abbrev pub invariant-loop-k : goal.invariant-loop-k
invariant-loop-k l = marked (drop l.k-index l.fields) l.marks.items ≡ marked l.initial.fields l.initial.marks.items
