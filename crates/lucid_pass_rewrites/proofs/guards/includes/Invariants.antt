use Rattle.std.proofs.Common.{◌≡◌, drop}
use Rattle.lucid_pass_spec.specs.Looks.{includes}
use Rattle.lucid_pass_rewrites.proofs.guards.includes.Given as goal

abbrev pub invariant-loop-at : goal.invariant-loop-at
invariant-loop-at l = includes l.guard (drop l.at l.literals) ≡ includes l.initial.guard l.initial.literals
