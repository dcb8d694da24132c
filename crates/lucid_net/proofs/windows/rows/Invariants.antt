use Rattle.std.proofs.Common.{◌≡◌, length}
use Rattle.lucid_net.specs.Windows.{AreRows}
use Rattle.lucid_net.proofs.windows.rows.Given as goal

abbrev pub invariant-loop-a : goal.invariant-loop-a
invariant-loop-a l = record {
  long : length l.rows ≡ l.a;
  rows : AreRows l.down l.rows;
}
