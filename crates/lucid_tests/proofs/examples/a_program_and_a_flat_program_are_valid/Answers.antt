use Rattle.lucid_tests.proofs.ExampleProofs.{small_is_valid, worked_is_valid, formed_is_valid, flat_is_valid, nested_is_valid, group_is_valid, empty_is_valid}
use Rattle.lucid_tests.proofs.examples.a_program_and_a_flat_program_are_valid.Goals as goal

pub returns : goal.returns
returns c = record { core = small_is_valid; worked = worked_is_valid; formed = formed_is_valid; flat_core = flat_is_valid; nested = nested_is_valid; group = group_is_valid; empty = empty_is_valid }
