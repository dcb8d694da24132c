-- The examples of specs/Examples hold by computation.
use Rattle.std.proofs.Common.{refl}
use Rattle.lucid_stages.specs.Examples.{NodeExamples}

pub node_examples : NodeExamples
node_examples = record { by_key = refl; by_place = refl; smaller_key_later = refl; same_key_later = refl; greater_key = refl; own_field = refl }
