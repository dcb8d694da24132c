use Rattle.std.proofs.Common.{◌≡◌, drop}
use Rattle.lucid_pass_rewrites.specs.Covering.{mark_each}
use Rattle.lucid_pass_rewrites.proofs.covering.mark_each.Given as goal

abbrev pub invariant-loop-literal : goal.invariant-loop-literal
invariant-loop-literal l = mark_each l.ops l.guard (drop l.literal-index l.literals) l.marks.items ≡ mark_each l.ops l.guard l.initial.literals l.initial.marks.items
