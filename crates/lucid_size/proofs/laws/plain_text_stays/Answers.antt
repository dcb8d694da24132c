use Rattle.lucid_size.proofs.Plain.{plain_expands}
use Rattle.lucid_size.proofs.laws.plain_text_stays.Goals as goal

pub returns : goal.returns
returns c = plain_expands c.args.text.now c.args.tokens.now c.requires.reads c.requires.none
