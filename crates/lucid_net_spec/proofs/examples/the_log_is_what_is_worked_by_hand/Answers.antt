use Rattle.lucid_net_spec.proofs.ExampleProofs.{network_examples}
use Rattle.lucid_net_spec.proofs.examples.the_log_is_what_is_worked_by_hand.Goals as goal

pub returns : goal.returns
returns c = network_examples
