use Rattle.std.proofs.Common.{◌≡◌, length, take}
use Rattle.lucid_size.specs.Widths.{AreDealt}
use Rattle.lucid_size.proofs.widths.deal.Given as goal

-- so many are dealt out
abbrev pub invariant-loop-instance : goal.invariant-loop-instance
invariant-loop-instance l = record {
  many : length l.rows.items ≡ l.templates;
  dealt : AreDealt l.rows.items (take l.instance-index l.found);
}
