use Rattle.std.proofs.Common.{◌++◌, drop}
use Rattle.lucid_io.specs.Puts.{Leaves}
use Rattle.lucid_log.specs.Pieces.{text_of}
use Rattle.lucid_log.proofs.pieces.hold_pieces.Given as goal

-- The rest: the buffered bytes, and the other pieces.
abbrev pub invariant-loop-piece : goal.invariant-loop-piece
invariant-loop-piece g l =
    Leaves g.S.Sink.written g.S.Sink.faults l.fn.sink l.sink (l.fn.room ++ text_of l.pieces) (l.room ++ text_of (drop l.piece-index l.pieces))
