use Rattle.lucid_net_spec.proofs.InOrder.{stays_in_order, enters_least}
use Rattle.lucid_net_spec.proofs.laws.the_least_enters.Goals as goal

pub returns-clause-in_order : goal.returns-clause-in_order
returns-clause-in_order c = stays_in_order

pub returns-clause-least : goal.returns-clause-least
returns-clause-least c = enters_least
