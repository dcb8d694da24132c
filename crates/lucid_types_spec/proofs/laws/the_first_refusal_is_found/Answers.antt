use Rattle.lucid_types_spec.proofs.First.{determines, finds_first}
use Rattle.lucid_types_spec.proofs.laws.the_first_refusal_is_found.Goals as goal

pub returns : goal.returns
returns c = record { found = finds_first; determined = determines }
