use Rattle.std.proofs.Common.{◌≡◌, length}
use Rattle.lucid_net.specs.Windows.{AreOf}
use Rattle.lucid_net.proofs.windows.row.Given as goal

abbrev pub invariant-loop-b : goal.invariant-loop-b
invariant-loop-b l = record {
  long : length l.row ≡ l.b;
  row : AreOf l.down l.a l.row;
}
