use Rattle.std.proofs.Common.{take}
use Rattle.lucid_pass_rewrites.specs.Comparisons.{ReadMarks}
use Rattle.lucid_pass_rewrites.proofs.direct.read_of.Given as goal

abbrev pub invariant-loop-op : goal.invariant-loop-op
invariant-loop-op l = ReadMarks l.fields l.read.items (take l.op-index l.ops)
