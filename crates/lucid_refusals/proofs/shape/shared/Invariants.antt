use Rattle.std.proofs.Common.{◌≡◌, ◌++◌, drop}
use Rattle.lucid_refusals.specs.Refusal.{shared}
use Rattle.lucid_refusals.proofs.shape.shared.Given as goal

abbrev pub invariant-loop-literal : goal.invariant-loop-literal
invariant-loop-literal l = l.literals ++ shared l.fields (drop l.literal-index l.pattern) ≡ shared l.fields l.pattern
