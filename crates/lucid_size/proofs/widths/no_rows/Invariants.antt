use Rattle.std.proofs.Common.{◌≡◌, [], length}
use Rattle.lucid_size.specs.Widths.{AreDealt}
use Rattle.lucid_size.proofs.widths.no_rows.Given as goal

abbrev pub invariant-loop-i : goal.invariant-loop-i
invariant-loop-i l = record {
  many : length l.made.items ≡ l._i;
  dealt : AreDealt l.made.items [];
}
