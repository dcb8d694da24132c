use Rattle.std.proofs.Common.{Ok, ap}
use Rattle.lucid_audit.proofs.Growing.{too_long}
use Rattle.lucid_audit.proofs.growth.with_node.Goals as goal

pub returns-in-None-clause-none : goal.returns-in-None-clause-none
returns-in-None-clause-none c =
    λ _. too_long c.args.code.now.ops c.args.rows c.args.table.now.rows c.args.node.now c.as_slice.result.now c.as_slice.ensures
    (c.in_ok-node_table.ensures.none (ap Ok c.in-None.is))
