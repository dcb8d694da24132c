use Rattle.std.proofs.Common.{length}
use Rattle.lucid_pass_rewrites.specs.Covering.{NestedBefore, Uncovered}
use Rattle.lucid_pass_rewrites.proofs.covering.uncovered.Given as goal

abbrev pub invariant-loop-i : goal.invariant-loop-i
invariant-loop-i l = NestedBefore l.ops l.i l.nested × Uncovered l.ops (length l.writers) l.i l.marks.items
