use Rattle.std.proofs.Common.{◌≡◌, take}
use Rattle.lucid_inline.proofs.program.copy_arrays.Given as goal

-- the visited items are copied
abbrev pub invariant-loop-array : goal.invariant-loop-array
invariant-loop-array l = l.copies.items ≡ take l.array-index l.arrays
