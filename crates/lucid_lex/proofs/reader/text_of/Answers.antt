use Rattle.lucid_lex.specs.Reading.{bytes_of}
use Rattle.lucid_lex.proofs.Ascii.{token_ascii}
use Rattle.lucid_lex.proofs.reader.text_of.Goals as goal

pub returns-clause-ascii : goal.returns-clause-ascii
returns-clause-ascii c = token_ascii (bytes_of c.args.text.now c.args.token) c.args.token.kind c.requires.written
