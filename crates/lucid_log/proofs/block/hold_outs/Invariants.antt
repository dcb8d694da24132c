use Rattle.std.proofs.Common.{◌++◌, drop}
use Rattle.lucid_io.specs.Puts.{Leaves}
use Rattle.lucid_log.specs.Block.{outs_text}
use Rattle.lucid_log.proofs.block.hold_outs.Given as goal

-- The rest: the buffered bytes, and the lines of the other outs.
abbrev pub invariant-loop-i : goal.invariant-loop-i
invariant-loop-i g l =
    Leaves g.S.Sink.written g.S.Sink.faults l.fn.sink l.sink (l.fn.room ++ outs_text l.core l.lost 0 l.outs) (l.room ++ outs_text l.core l.lost l.i (drop l.i l.outs))
