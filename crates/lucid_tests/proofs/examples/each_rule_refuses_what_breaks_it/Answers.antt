use Rattle.lucid_tests.proofs.ExampleProofs.{rules_refuse}
use Rattle.lucid_tests.proofs.examples.each_rule_refuses_what_breaks_it.Goals as goal

pub returns : goal.returns
returns c = rules_refuse
