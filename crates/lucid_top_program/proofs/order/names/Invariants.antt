use Rattle.std.proofs.Common.{◌≡◌, map, take}
use Rattle.lucid_top_program.specs.Program.{array_name}
use Rattle.lucid_top_program.proofs.order.names.Given as goal

abbrev pub invariant-loop-array : goal.invariant-loop-array
invariant-loop-array l = l.names.items ≡ map (array_name l.tree l.core l.decl) (take l.array-index l.arrays)
