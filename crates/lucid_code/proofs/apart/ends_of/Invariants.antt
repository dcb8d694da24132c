use Rattle.std.proofs.Common.{◌≡◌, map, take}
use Rattle.lucid_code.specs.Shared.{end_of}
use Rattle.lucid_code.proofs.apart.ends_of.Given as goal

abbrev pub invariant-loop-op : goal.invariant-loop-op
invariant-loop-op l = l.ends.items ≡ map end_of (take l.op-index l.ops)
