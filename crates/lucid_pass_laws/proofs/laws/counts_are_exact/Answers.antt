use Rattle.lucid_pass_laws.proofs.Counted.{length_counted, size_counted}
use Rattle.lucid_pass_laws.proofs.laws.counts_are_exact.Goals as goal

pub returns-clause-length : goal.returns-clause-length
returns-clause-length c = length_counted c.args.core.now c.keeps_counts.ensures c.flat_is_valid.ensures

pub returns-clause-size : goal.returns-clause-size
returns-clause-size c = size_counted c.args.core.now c.keeps_counts.ensures
