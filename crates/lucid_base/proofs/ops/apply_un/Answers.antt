use Rattle.std.proofs.Common.{◌∙◌}
use Rattle.lucid_base.proofs.Laws.{un_of-fits, un_of-shifted_out}
use Rattle.lucid_base.proofs.ops.apply_un.Goals as goal

pub invariant_of-result : goal.invariant_of-result
invariant_of-result c = record {
  fits = rw c.un_value.ensures (un_of-fits c.args.op c.args.a.width c.args.a.value c.args.a.fits);
}

pub returns-clause-shifted_out : goal.returns-clause-shifted_out
returns-clause-shifted_out c =
    λ k shift far. c.un_value.ensures ∙ un_of-shifted_out c.args.op c.args.a.width c.args.a.value k shift far c.args.a.fits
