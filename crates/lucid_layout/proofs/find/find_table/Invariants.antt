use Rattle.std.proofs.Common.{◌≡◌, ℕ, ◌<◌}
use Rattle.lucid_layout.specs.Fit.{TableFits}
use Rattle.lucid_layout.proofs.find.find_table.Given as goal

abbrev pub invariant-loop-t : goal.invariant-loop-t
invariant-loop-t l = (l.stage ≡ l.fn.stage) × ((u : ℕ) → u < l.t → TableFits l.limits l.fn.stage l.more.rows u → ⊥)
