use Rattle.std.proofs.Common.{◌≡◌}
use Rattle.lucid_layout.proofs.filling.bare_tables.Given as goal

abbrev pub invariant-loop-one : goal.invariant-loop-one
invariant-loop-one l = l.tables ≡ l.yielded
