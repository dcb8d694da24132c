use Rattle.lucid_top_laws.proofs.TextsAnswers.{are_seen}
use Rattle.lucid_top_laws.proofs.texts.sights_are_shown.Goals as goal

pub returns : goal.returns
returns c = are_seen c.declarations_are_read_as_spelled.ensures
