use Rattle.std.proofs.Common.{sym, subst}
use Rattle.lucid_refusals.specs.Refusal.{StandsFor}
use Rattle.lucid_refusals.proofs.RefusalLemmas.{stands_plain}
use Rattle.lucid_refusals.proofs.shape.shape_of.Goals as goal

pub returns : goal.returns
returns c = subst (StandsFor c.args.fields.now c.args.more.now) (sym c.in_ok-shape.ensures) (stands_plain c.rows_are_counted.ensures c.args.fields.now c.args.more.now)
