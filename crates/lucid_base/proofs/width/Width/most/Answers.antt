use Rattle.std.proofs.Common.{◌-◌, ◌^◌, ap, ◌∙◌}
use Rattle.lucid_base.proofs.Widths.{ones_shr}
use Rattle.lucid_base.proofs.width.Width.most.Goals as goal

pub returns-clause-value : goal.returns-clause-value
returns-clause-value c = ones_shr c.self.inside.bits c.self.invariant.1 ∙ ap (λ w. 2 ^ w - 1) c.self.view_is
