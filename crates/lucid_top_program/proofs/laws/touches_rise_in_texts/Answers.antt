use Rattle.lucid_top_program.proofs.SafeTexts.{texts_are_safe}
use Rattle.lucid_top_program.proofs.laws.touches_rise_in_texts.Goals as goal

pub returns : goal.returns
returns c = texts_are_safe c.declarations_are_read_as_spelled.ensures c.typed_programs_are_valid.ensures
