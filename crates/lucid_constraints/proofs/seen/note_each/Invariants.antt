use Rattle.std.proofs.Common.{take}
use Rattle.lucid_constraints.specs.Seen.{Seen}
use Rattle.lucid_constraints.proofs.seen.note_each.Given as goal

abbrev pub invariant-loop-atom : goal.invariant-loop-atom
invariant-loop-atom l = Seen l.seen (take l.atom-index l.ends)
