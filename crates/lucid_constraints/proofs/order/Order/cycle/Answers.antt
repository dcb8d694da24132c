use Rattle.std.proofs.Common.{refl, subst}
use Rattle.lucid_constraints.specs.Cycle.{HasNumbering, Needed}
use Rattle.lucid_constraints.proofs.order.Order.cycle.Goals as goal

pub returns-then-settle : goal.returns-then-settle
returns-then-settle c =
    record { none = ((λ e. subst (λ ps. HasNumbering (Needed c.args.arrays ps)) c.pairs.ensures.value (c.if-settle.ensures.rises refl)), (λ h. refl)); cycle = tt }
