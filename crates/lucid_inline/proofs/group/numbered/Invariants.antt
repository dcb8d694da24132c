use Rattle.std.proofs.Common.{◌≡◌, ◌+◌, length}
use Rattle.std.specs.List.{enumerate_from}
use Rattle.lucid_inline.proofs.group.numbered.Given as goal

abbrev pub invariant-loop-arg : goal.invariant-loop-arg
invariant-loop-arg l = record { given : l.given ≡ enumerate_from l.first l.yielded; next : l.next ≡ l.first + length l.yielded }
