use Rattle.std.proofs.Common.{◌≡◌, ◌+◌, ◌*◌, ◌≤◌, drop}
use Rattle.lucid_conf.specs.Tables.{cells}
use Rattle.lucid_conf.proofs.scenario.cells.Given as goal

abbrev pub invariant-loop-array : goal.invariant-loop-array
invariant-loop-array l = (l.sum + cells (drop l.array-index l.core.arrays) ≡ cells l.core.arrays) × (l.sum ≤ l.array-index * 4294967295)
