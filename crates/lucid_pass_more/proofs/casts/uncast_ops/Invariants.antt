use Rattle.std.proofs.Common.{◌≡◌, map, take}
use Rattle.lucid_pass_more_spec.specs.Casts.{uncast_op}
use Rattle.lucid_pass_more.proofs.casts.uncast_ops.Given as goal

abbrev pub invariant-loop-op : goal.invariant-loop-op
invariant-loop-op l = l.new.items ≡ map uncast_op (take l.op-index l.ops)
