use Rattle.std.proofs.Common.{◌≡◌}
use Rattle.lucid_inline_count.specs.Bodies.{held_first}
use Rattle.lucid_inline_count.proofs.program.first_held.Given as goal

abbrev pub invariant-loop-i : goal.invariant-loop-i
invariant-loop-i l = l.held.items ≡ held_first l.params l.i
