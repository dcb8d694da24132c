use Rattle.lucid_effects_spec.proofs.OrderProofs.{order_examples}
use Rattle.lucid_effects_spec.proofs.examples.bodies_are_in_order_or_not.Goals as goal

pub returns : goal.returns
returns c = order_examples
