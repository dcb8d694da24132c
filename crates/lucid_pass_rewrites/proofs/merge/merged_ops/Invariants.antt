use Rattle.std.proofs.Common.{◌≡◌, map, take}
use Rattle.lucid_pass_more_spec.specs.Merge.{answers_for, merged_op}
use Rattle.lucid_pass_rewrites.proofs.merge.merged_ops.Given as goal

abbrev pub invariant-loop-op : goal.invariant-loop-op
invariant-loop-op l = l.new.items ≡ map (merged_op (answers_for l.widths l.ops)) (take l.op-index l.ops)
