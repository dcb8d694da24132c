use Rattle.std.proofs.Common.{◌≡◌, ◌++◌, drop, not}
use Rattle.std.specs.List.{filter}
use Rattle.lucid_pass_more_spec.specs.Lift.{drops}
use Rattle.lucid_pass_more.proofs.lift.kept.Given as goal

abbrev pub invariant-loop-at : goal.invariant-loop-at
invariant-loop-at l = l.literals ++ filter (λ m. not (drops l.known.ops.now l.k m)) (drop l.at l.guard) ≡ filter (λ m. not (drops l.known.ops.now l.k m)) l.guard
