use Rattle.std.proofs.Common.{◌≡◌, ◌++◌, length, drop}
use Rattle.lucid_core.specs.Texts.{holes_of}
use Rattle.lucid_io.specs.Puts.{Leaves}
use Rattle.lucid_log.specs.Filled.{filled}
use Rattle.lucid_log.proofs.filled.hold_filled.Given as goal

-- The rest: the buffered bytes, and the rest of the text, with the remaining numbers, one for each `%d`.
abbrev pub invariant-loop-number : goal.invariant-loop-number
invariant-loop-number g l = record {
  left : Leaves g.S.Sink.written g.S.Sink.faults l.fn.sink l.sink (l.fn.room ++ filled l.text l.numbers) (l.room ++ filled l.rest (drop l.number-index l.numbers));
  holes : holes_of l.rest ≡ length (drop l.number-index l.numbers);
}
