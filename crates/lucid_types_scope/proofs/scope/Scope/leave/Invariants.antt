-- The names that are to be left stay.
use Rattle.std.proofs.Common.{◌≡◌, ◌-◌, drop, length}
use Rattle.lucid_types_scope.proofs.scope.Scope.leave.Given as goal

abbrev pub invariant-loop-self : goal.invariant-loop-self
invariant-loop-self l = drop (length l.self - l.len) l.self ≡ drop (length l.initial.self - l.len) l.initial.self

abbrev pub decreases-loop-self : goal.decreases-loop-self
decreases-loop-self l = length l.self
