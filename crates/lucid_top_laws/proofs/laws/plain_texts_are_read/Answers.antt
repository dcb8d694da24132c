use Rattle.lucid_top_laws.proofs.TemplatesLemmas.{plain}
use Rattle.lucid_top_laws.proofs.laws.plain_texts_are_read.Goals as goal

pub plain_text_stays-requires-clause-reads : goal.plain_text_stays-requires-clause-reads
plain_text_stays-requires-clause-reads c = c.requires.reads

pub plain_text_stays-requires-clause-none : goal.plain_text_stays-requires-clause-none
plain_text_stays-requires-clause-none c = c.requires.none

pub returns : goal.returns
returns c = plain c.args.text.now c.args.tokens.now c.requires.reads c.requires.short c.plain_text_stays.ensures
