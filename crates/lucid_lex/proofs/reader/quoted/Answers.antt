use Rattle.lucid_lex.specs.Reading.{bytes_of}
use Rattle.lucid_lex.proofs.Ascii.{quoted_ascii}
use Rattle.lucid_lex.proofs.Quotes.{between_quotes}
use Rattle.lucid_lex.proofs.reader.quoted.Goals as goal

pub returns-clause-quoted : goal.returns-clause-quoted
returns-clause-quoted c = between_quotes c.args.text.now c.args.token c.requires.stands c.requires.is_text

pub returns-clause-ascii : goal.returns-clause-ascii
returns-clause-ascii c = quoted_ascii (bytes_of c.args.text.now c.args.token) _ (between_quotes c.args.text.now c.args.token c.requires.stands c.requires.is_text)
