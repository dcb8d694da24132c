use Rattle.std.proofs.Common.{◌++◌, drop}
use Rattle.lucid_io.specs.Puts.{Leaves}
use Rattle.lucid_log.specs.Pieces.{numbers_text}
use Rattle.lucid_log.proofs.Numbers.{after_commas}
use Rattle.lucid_log.proofs.pieces.hold_numbers.Given as goal

-- The rest: the buffered bytes, and the other numbers, each after a comma.
abbrev pub invariant-loop-number : goal.invariant-loop-number
invariant-loop-number g l =
    Leaves g.S.Sink.written g.S.Sink.faults l.fn.sink l.sink (l.fn.room ++ numbers_text l.numbers) (l.room ++ after_commas (drop l.number-index l.rest))
