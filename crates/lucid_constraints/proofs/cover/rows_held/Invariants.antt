use Rattle.lucid_constraints.specs.Cover.{RowsHeldTo}
use Rattle.lucid_constraints.proofs.cover.rows_held.Given as goal

abbrev pub invariant-loop-k : goal.invariant-loop-k
invariant-loop-k l = RowsHeldTo l.places l.theirs l.ours l.k
