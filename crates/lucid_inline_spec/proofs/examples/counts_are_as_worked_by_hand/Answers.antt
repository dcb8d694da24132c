use Rattle.lucid_inline_spec.proofs.ExampleProofs.{count_examples}
use Rattle.lucid_inline_spec.proofs.examples.counts_are_as_worked_by_hand.Goals as goal

pub returns : goal.returns
returns c = count_examples
