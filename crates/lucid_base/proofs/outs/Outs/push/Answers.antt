use Rattle.std.proofs.Common.{length, ap, arith}
use Rattle.lucid_base.specs.Small.{length-used}
use Rattle.lucid_base.specs.Outs.{no_out}
use Rattle.lucid_base.proofs.Small.{IsSmall-push}
use Rattle.lucid_base.proofs.outs.Outs.push.Goals as goal

pub invariant_of-self : goal.invariant_of-self
invariant_of-self c =
    let used = length-used 8 no_out c.self.inside.len c.self.inside.cells c.self.invariant in
    let counted = ap length c.self.view_is in
    IsSmall-push 8 no_out c.self.inside.len c.self.inside.cells c.args.v c.self.invariant (omega (arith, used, counted, c.requires))
