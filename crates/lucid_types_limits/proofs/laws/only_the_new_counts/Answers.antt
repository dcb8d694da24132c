use Rattle.lucid_types_limits.proofs.New.{only_the_new}
use Rattle.lucid_types_limits.proofs.laws.only_the_new_counts.Goals as goal

pub returns : goal.returns
returns c = only_the_new
