use Rattle.lucid_top_laws.proofs.TextsExamples.{are_taken}
use Rattle.lucid_top_laws.proofs.texts.texts_are_taken.Goals as goal

pub returns : goal.returns
returns c = are_taken c.declarations_are_read_as_spelled.ensures
