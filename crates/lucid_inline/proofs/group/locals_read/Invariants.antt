use Rattle.std.proofs.Common.{◌≡◌, ◌+◌}
use Rattle.lucid_inline_spec.specs.Flat.{locals_from}
use Rattle.lucid_inline.proofs.group.locals_read.Given as goal

abbrev pub invariant-loop-i : goal.invariant-loop-i
invariant-loop-i l = record { xs : l.xs ≡ locals_from l.first l._i; next : l.next ≡ l.first + l._i }
