use Rattle.std.proofs.Common.{rules}
use Rattle.lucid_top_program.specs.Program.{AreTokens}
use Rattle.lucid_top_words.proofs.Parts.{Prepares-err, Prepares-ok}
use Rattle.lucid_top_program.proofs.program.accepted_text.Goals as goal

pub returns-in_err-tokens-clause-program : goal.returns-in_err-tokens-clause-program
returns-in_err-tokens-clause-program c =
    Prepares-err (AreTokens c.args.text.now) _ _ c.in_err-tokens.field-0.0 c.from_residual.result (search rules) c.in_err-tokens.ensures.tokens

pub returns-clause-program : goal.returns-clause-program
returns-clause-program c =
    Prepares-ok (AreTokens c.args.text.now) _ _ c.in_ok-tokens.tokens.items c.accepted_tokens.result c.in_ok-tokens.ensures.tokens c.accepted_tokens.ensures.program
