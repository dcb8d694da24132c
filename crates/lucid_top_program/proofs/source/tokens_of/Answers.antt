use Rattle.std.proofs.Common.{◌≡◌, ℕ, Err, sym, ap, subst, rules}
use Rattle.lucid_lex.specs.Reading.{StopsAt}
use Rattle.lucid_lex.specs.declared.token.LexError.{LexError}
use Rattle.lucid_lex.specs.declared.token.LexError.TheVariants as lex
use Rattle.lucid_top_words.specs.Outcome.{Declines}
use Rattle.lucid_top_program.specs.Program.{AreTokens}
use Rattle.lucid_top_program.specs.Causes.{of_lex}
use Rattle.lucid_top_program.proofs.Tokens.{tokens-read, tokens-stop}
use Rattle.lucid_top_program.proofs.source.tokens_of.Goals as goal

pub returns-in-Ok-clause-tokens : goal.returns-in-Ok-clause-tokens
returns-in-Ok-clause-tokens c = tokens-read c.args.text.now _ c.in-Ok.ensures.ok c.in-Ok.ensures.reads c.in-Ok.ensures.stops

pub returns-in-Err-clause-tokens : goal.returns-in-Err-clause-tokens
returns-in-Err-clause-tokens c =
    let is : c.of_lex.result ≡ of_lex c.in-Err.error = search rules in
    let stops : (at : ℕ) → c.in-Err.error ≡ lex.NoToken at → StopsAt c.args.text.now at = λ at h. c.in-Err.ensures.no_token at (ap (λ (l : LexError). Err l) h) in
    subst (Declines (AreTokens c.args.text.now)) (sym is) (tokens-stop c.args.text.now c.in-Err.error stops c.in-Err.ensures.reads c.in-Err.ensures.stops)
