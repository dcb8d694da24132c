use Rattle.std.proofs.Common.{◌++◌, drop}
use Rattle.lucid_io.specs.Puts.{Leaves}
use Rattle.lucid_log.specs.Cells.{arrays_from, cells_text}
use Rattle.lucid_log.proofs.cells.hold_cells.Given as goal

-- The rest: the buffered bytes, and the lines of the other arrays.
abbrev pub invariant-loop-number : goal.invariant-loop-number
invariant-loop-number g l =
    Leaves g.S.Sink.written g.S.Sink.faults l.fn.sink l.sink (l.fn.room ++ cells_text l.switch l.arrays (g.C.ArrayCells.held l.cells))
    (l.room ++ arrays_from l.switch (g.C.ArrayCells.held l.cells) l.number (drop l.number l.arrays))
