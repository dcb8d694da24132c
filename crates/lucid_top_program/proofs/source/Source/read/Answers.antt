use Rattle.std.proofs.Common.{rules}
use Rattle.lucid_top_program.specs.Program.{AreTokens}
use Rattle.lucid_top_program.specs.Source.{text_of}
use Rattle.lucid_top_words.proofs.Parts.{Prepares-err, Prepares-ok}
use Rattle.lucid_top_program.proofs.source.Source.read.Goals as goal

pub returns-in_err-tokens-clause-source : goal.returns-in_err-tokens-clause-source
returns-in_err-tokens-clause-source c =
    Prepares-err (AreTokens c.args.text.now) _ _ c.in_err-tokens.field-0.0 c.from_residual.result (search rules) c.in_err-tokens.ensures.tokens

pub returns-clause-source : goal.returns-clause-source
returns-clause-source c =
    Prepares-ok (AreTokens c.args.text.now) _ (text_of c.args.text.now) c.in_ok-tokens.tokens.items c.expanded.result c.in_ok-tokens.ensures.tokens c.expanded.ensures.source
