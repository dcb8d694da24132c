use Rattle.std.proofs.Common.{◌≡◌, map, take}
use Rattle.lucid_pass_more_spec.specs.Lift.{lift_op}
use Rattle.lucid_pass_more.proofs.lift.lift_ops.Given as goal

abbrev pub invariant-loop-op : goal.invariant-loop-op
invariant-loop-op l = l.new.items ≡ map (lift_op l.ops) (take l.op-index l.ops)
