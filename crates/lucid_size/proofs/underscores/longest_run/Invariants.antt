use Rattle.std.proofs.Common.{◌≡◌, ◌≤◌, drop}
use Rattle.lucid_size.specs.Suffix.{longest_run}
use Rattle.lucid_size.proofs.underscores.longest_run.Given as goal

abbrev pub invariant-loop-byte : goal.invariant-loop-byte
invariant-loop-byte l = record {
  few : l.run ≤ l.byte-index;
  most : l.most ≤ l.byte-index;
  left : longest_run l.most l.run (drop l.byte-index l.bytes) ≡ longest_run 0 0 l.bytes;
}
