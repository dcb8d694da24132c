use Rattle.std.proofs.Common.{◌≡◌, ◌-◌, ◌≤◌, length, take}
use Rattle.std.specs.Io.KnownBytes.{Appends}
use Rattle.lucid_io.proofs.writing.put_all.Given as goal

-- The written bytes are a beginning of the piece.
abbrev pub invariant-put : goal.invariant-put
invariant-put g l = record {
  within : l.at ≤ length l.piece;
  so_far : Appends (g.S.Sink.written l.fn.sink) (g.S.Sink.written l.sink) (take l.at l.piece);
  quiet : g.S.Sink.faults l.sink ≡ g.S.Sink.faults l.fn.sink;
}

-- Each turn but the last writes a byte.
abbrev pub decreases-put : goal.decreases-put
decreases-put g l = length l.piece - l.at
