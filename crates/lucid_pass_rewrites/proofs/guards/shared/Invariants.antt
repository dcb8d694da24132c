use Rattle.lucid_pass_rewrites.specs.Covering.{Alike}
use Rattle.lucid_pass_rewrites.proofs.guards.shared.Given as goal

abbrev pub invariant-loop-at : goal.invariant-loop-at
invariant-loop-at l = Alike l.a l.b l.at
