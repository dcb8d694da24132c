use Rattle.std.proofs.Common.{Ok, ap}
use Rattle.lucid_layout.proofs.FitLemmas.{too_long}
use Rattle.lucid_layout.proofs.fit.next.Goals as goal

pub returns-in-None-clause-none : goal.returns-in-None-clause-none
returns-in-None-clause-none c =
    λ _. too_long c.args.code.now.ops c.args.limits.now c.args.ends.now c.args.low.now c.args.stages.now.items c.args.node.now c.args.at c.as_slice-2.result.now c.as_slice-2.ensures
    (c.in_ok-node_table.ensures.none (ap Ok c.in-None.is))
