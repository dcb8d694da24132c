use Rattle.std.proofs.Common.{ℕ, ◌<◌, ◌≤◌}
use Rattle.lucid_stages.specs.Counts.{count_of}
use Rattle.lucid_stages.proofs.counts.first_crowded.Given as goal

abbrev pub invariant-loop-array : goal.invariant-loop-array
invariant-loop-array l = (g : ℕ) → g < l.array → count_of l.code g ≤ l.most
