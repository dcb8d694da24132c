use Rattle.std.proofs.Common.{◌≡◌, take}
use Rattle.lucid_inline.proofs.program.copy_memops.Given as goal

-- the visited items are copied
abbrev pub invariant-loop-memop : goal.invariant-loop-memop
invariant-loop-memop l = l.copies.items ≡ take l.memop-index l.memops
