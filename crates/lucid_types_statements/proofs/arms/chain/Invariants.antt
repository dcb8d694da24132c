-- What is left of the arms decides.
use Rattle.std.proofs.Common.{◌≡◌, length}
use Rattle.lucid_types_statements.specs.Assembly.{chained}
use Rattle.lucid_types_statements.proofs.arms.chain.Given as goal

abbrev pub invariant-arms : goal.invariant-arms
invariant-arms l = chained l.local l.width l.arms l.rest ≡ chained l.local l.width l.fn.arms l.fn.last

abbrev pub decreases-arms : goal.decreases-arms
decreases-arms l = length l.arms
