use Rattle.std.proofs.Common.{length}
use Rattle.lucid_core_run.proofs.scratch.without_items.Given as goal

abbrev pub decreases-loop : goal.decreases-loop
decreases-loop l = length l.left
