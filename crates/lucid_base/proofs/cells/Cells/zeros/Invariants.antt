use Rattle.std.proofs.Common.{◌≡◌, take}
use Rattle.lucid_base.specs.Cells.{zero_cells}
use Rattle.lucid_base.proofs.cells.Cells.zeros.Given as goal

abbrev pub invariant-loop-array : goal.invariant-loop-array
invariant-loop-array l = l.rows.items ≡ zero_cells (take l.array-index l.arrays)
