use Rattle.lucid_layout.proofs.FitLemmas.{Moment}
use Rattle.std.proofs.Common.{length}
use Rattle.lucid_layout.proofs.fit.fit.Given as goal

abbrev pub invariant-loop-at : goal.invariant-loop-at
invariant-loop-at l = Moment l.code.ops l.limits (length l.code.fields) l.nodes l.at l.stages.items l.low.items l.pairs
