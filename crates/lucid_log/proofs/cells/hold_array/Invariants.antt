use Rattle.std.proofs.Common.{◌++◌, ◌-◌}
use Rattle.lucid_io.specs.Puts.{Leaves}
use Rattle.lucid_log.specs.Cells.{lines_from}
use Rattle.lucid_log.proofs.cells.hold_array.Given as goal

-- The rest: the buffered bytes, and the lines of the other cells.
abbrev pub invariant-loop-cell : goal.invariant-loop-cell
invariant-loop-cell g l =
    Leaves g.S.Sink.written g.S.Sink.faults l.fn.sink l.sink (l.fn.room ++ lines_from l.switch (g.C.ArrayCells.held l.cells) l.array l.name 0 l.size)
    (l.room ++ lines_from l.switch (g.C.ArrayCells.held l.cells) l.array l.name l.cell (l.size - l.cell))
