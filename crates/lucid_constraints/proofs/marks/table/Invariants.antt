use Rattle.std.proofs.Common.{◌≡◌, length, take}
use Rattle.lucid_constraints.specs.Marks.{Marked}
use Rattle.lucid_constraints.proofs.marks.table.Given as goal

abbrev pub invariant-loop-pair : goal.invariant-loop-pair
invariant-loop-pair l = Marked l.marks.items (take l.pair-index l.pairs) × (length l.marks.items ≡ 5256)
