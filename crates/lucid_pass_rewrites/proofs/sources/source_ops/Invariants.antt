use Rattle.std.proofs.Common.{◌≡◌, map, take}
use Rattle.lucid_pass_more_spec.specs.Sources.{source_op, source_of}
use Rattle.lucid_pass_rewrites.proofs.sources.source_ops.Given as goal

abbrev pub invariant-loop-op : goal.invariant-loop-op
invariant-loop-op l = l.new.items ≡ map (source_op (source_of l.widths l.ops)) (take l.op-index l.ops)
