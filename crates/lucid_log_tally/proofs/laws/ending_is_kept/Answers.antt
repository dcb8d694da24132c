use Rattle.lucid_log_tally.proofs.Endings as endings
use Rattle.lucid_log_tally.proofs.laws.ending_is_kept.Goals as goal

pub returns-clause-kept : goal.returns-clause-kept
returns-clause-kept c = endings.ending_is_kept
