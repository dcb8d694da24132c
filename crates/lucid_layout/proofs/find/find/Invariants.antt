use Rattle.std.proofs.Common.{◌≡◌, ◌<◌}
use Rattle.lucid_stages.specs.declared.stage.Pair.{Pair}
use Rattle.lucid_layout.specs.Find.{Fits}
use Rattle.lucid_layout.proofs.find.find.Given as goal

abbrev pub invariant-loop-k : goal.invariant-loop-k
invariant-loop-k l = (l.stages.items ≡ l.fn.stages.items) × ((q : Pair) → q.stage < l.k → Fits l.limits l.fn.stages.items l.low l.array l.more.rows q → ⊥)
