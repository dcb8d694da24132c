use Rattle.lucid_net_spec.proofs.Free.{file_finds_free, made_finds_free, stays_apart}
use Rattle.lucid_net_spec.proofs.laws.places_are_free.Goals as goal

pub returns-clause-file : goal.returns-clause-file
returns-clause-file c = file_finds_free

pub returns-clause-made : goal.returns-clause-made
returns-clause-made c = made_finds_free

pub returns-clause-apart : goal.returns-clause-apart
returns-clause-apart c = stays_apart
