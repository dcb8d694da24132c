use Rattle.std.proofs.Common.{◌≡◌, ◌+◌, length}
use Rattle.lucid_inline.specs.Sites.{assigned}
use Rattle.lucid_inline.proofs.group.hold.Given as goal

abbrev pub invariant-loop-e : goal.invariant-loop-e
invariant-loop-e l = record { ss : l.ss ≡ assigned l.first l.yielded; next : l.next ≡ l.first + length l.yielded }
