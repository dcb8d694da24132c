-- One name less.
use Rattle.std.proofs.Common.{◌∙◌, ◌<◌, ◌-◌, ℕ, ap, drop, length, subst}
use Rattle.lucid_types_spec.specs.Names.{Names}
use Rattle.lucid_types_scope.proofs.Places.{one_less}
use Rattle.lucid_types_scope.proofs.scope.Scope.leave.Goals as goal

pub loop-self-preserved : goal.loop-self-preserved
loop-self-preserved c =
    ap (λ (names : Names). drop (length names - c.args.len) names) c.leave_newest.ensures
    ∙ one_less c.loop-self.self c.args.len (subst (λ (n : ℕ). c.args.len < n) c.len.ensures c.loop-self-test.true) ∙ c.loop-self.invariant
