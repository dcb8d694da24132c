use Rattle.std.proofs.Common.{◌≡◌, ◌+◌, ◌++◌, length, take}
use Rattle.lucid_log_tally.proofs.tally.TallySink.write.Given as goal

-- the bytes so far are a beginning of the piece
abbrev pub invariant-loop-byte : goal.invariant-loop-byte
invariant-loop-byte l = record {
  bytes : l.self.bytes ≡ l.fn.self.bytes ++ take l.byte-index l.piece;
  count : length l.self.bytes ≡ length l.fn.self.bytes + l.byte-index;
  faults : l.self.faults ≡ l.fn.self.faults;
}
