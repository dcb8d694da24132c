use Rattle.std.proofs.Common.{◌≡◌, map, take}
use Rattle.lucid_pass_more.specs.Lift.{is_impossible}
use Rattle.lucid_pass_more.proofs.lift.impossible.Given as goal

abbrev pub invariant-loop-op : goal.invariant-loop-op
invariant-loop-op l = l.found.items ≡ map is_impossible (take l.op-index l.ops)
