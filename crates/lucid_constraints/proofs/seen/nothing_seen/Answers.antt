use Rattle.std.proofs.lemmas.List.{get_or-replicate}
use Rattle.std.proofs.Common.{false}
use Rattle.lucid_constraints.proofs.seen.nothing_seen.Goals as goal

pub returns : goal.returns
returns c = λ x n is less. get_or-replicate 73 n false false less
