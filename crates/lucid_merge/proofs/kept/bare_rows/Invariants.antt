use Rattle.std.proofs.Common.{◌≡◌}
use Rattle.lucid_merge.specs.Signs.{rows_of}
use Rattle.lucid_merge.proofs.kept.bare_rows.Given as goal

abbrev pub invariant-loop-one : goal.invariant-loop-one
invariant-loop-one l = l.rows ≡ rows_of l.yielded
