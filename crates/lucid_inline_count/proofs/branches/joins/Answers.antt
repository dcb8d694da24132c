use Rattle.lucid_inline_count.proofs.HeldLemmas.{keeps_all}
use Rattle.lucid_inline_count.proofs.branches.joins.Goals as goal

pub returns-then-value-clause-assigned : goal.returns-then-value-clause-assigned
returns-then-value-clause-assigned c = keeps_all c.args.body.now.held.items c.args.from c.args.body.now.assigned.items

pub returns-else-value-clause-assigned : goal.returns-else-value-clause-assigned
returns-else-value-clause-assigned c = keeps_all c.args.body.now.held.items c.args.from c.args.body.now.assigned.items
