use Rattle.std.proofs.Common.{◌≡◌, map, take}
use Rattle.lucid_pass_spec.specs.Direct.{direct_op}
use Rattle.lucid_pass_rewrites.specs.Comparisons.{direct_by}
use Rattle.lucid_pass_rewrites.specs.Trail.{TrailBefore}
use Rattle.lucid_pass_rewrites.proofs.trail.directed.Given as goal

abbrev pub invariant-loop-i : goal.invariant-loop-i
invariant-loop-i l = (l.new.items ≡ map (direct_op (direct_by l.table)) (take l.i l.ops)) × TrailBefore (direct_by l.table) l.ops l.i l.long l.made.items l.ends.items
