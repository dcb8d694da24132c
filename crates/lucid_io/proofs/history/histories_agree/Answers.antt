use Rattle.lucid_io.proofs.HistoryLemmas.{shown_agrees}
use Rattle.lucid_io.proofs.history.histories_agree.Goals as goal

pub returns : goal.returns
returns c = shown_agrees
