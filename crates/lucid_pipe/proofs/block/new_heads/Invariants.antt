use Rattle.std.proofs.Common.{◌≡◌, length}
use Rattle.lucid_pipe.proofs.block.new_heads.Given as goal

abbrev pub invariant-loop-number : goal.invariant-loop-number
invariant-loop-number l = length l.heads.items ≡ l._number
