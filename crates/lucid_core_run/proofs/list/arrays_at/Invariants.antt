use Rattle.std.proofs.Common.{◌≡◌, map, take}
use Rattle.lucid_core.specs.Computations.{array_of}
use Rattle.lucid_core_run.proofs.list.arrays_at.Given as goal

abbrev pub invariant-loop-name : goal.invariant-loop-name
invariant-loop-name l = l.numbers ≡ map (array_of l.arrays) (take l.name-index l.names)
