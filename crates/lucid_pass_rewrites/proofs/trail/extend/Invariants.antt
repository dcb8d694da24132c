use Rattle.lucid_pass_rewrites.specs.Comparisons.{direct_by}
use Rattle.lucid_pass_rewrites.specs.Trail.{Trail}
use Rattle.lucid_pass_rewrites.proofs.trail.extend.Given as goal

abbrev pub invariant-loop-at : goal.invariant-loop-at
invariant-loop-at l = Trail (direct_by l.table) l.guard l.at l.made.items l.ends.items
