-- What the lexer answered is what the tokens of a text are.
use Rattle.std.proofs.Common.{◌≡◌, ◌≢◌, ℕ, List, Result, Ok, Err, sym, ap, refl}
use Rattle.lucid_lex.specs.Reading.{Reads, StopsAt}
use Rattle.lucid_lex.specs.declared.token.Token.{Token}
use Rattle.lucid_lex.specs.declared.token.LexError.{LexError}
use Rattle.lucid_lex.specs.declared.token.LexError.TheVariants as lex
use Rattle.lucid_top_words.specs.declared.refusal.Refusal.{Refusal}
use Rattle.lucid_top_words.specs.declared.refusal.Refusal.TheVariants as refusal
use Rattle.lucid_top_words.specs.Outcome.{Alike, IsTheAnswer, Declines}
use Rattle.lucid_top_program.specs.Program.{AreTokens}
use Rattle.lucid_top_program.specs.Causes.{of_lex}

pub tokens-read : (text : List ℕ) (ts : List Token) → Reads text ts → ((us : List Token) → Reads text us → ts ≡ us) → ((at : ℕ) → StopsAt text at → ⊥) →
    IsTheAnswer (AreTokens text) (Ok ts)
tokens-read text ts reads same never = record { is = reads; only = only }
  where
    only : (p : Result (List Token) Refusal) → AreTokens text p → Alike p (Ok ts)
    only (Ok us) is = sym (same us is)
    only (Err (refusal.NoToken at)) is = never at is
    only (Err r) is = absurd is

pub tokens-stop : (text : List ℕ) (e : LexError) → ((at : ℕ) → e ≡ lex.NoToken at → StopsAt text at) →
    ((us : List Token) → Reads text us → e ≡ lex.Memory) → ((at : ℕ) → StopsAt text at → e ≢ lex.Memory → e ≡ lex.NoToken at) → Declines (AreTokens text) (of_lex e)
tokens-stop text lex.Memory stops never same = tt
tokens-stop text (lex.NoToken n) stops never same = record { is = stops n refl; only = only }
  where
    only : (p : Result (List Token) Refusal) → AreTokens text p → Alike p (Err (refusal.NoToken n))
    only (Ok us) is = let memory : lex.NoToken n ≡ lex.Memory = never us is in absurd (cc)
    only (Err (refusal.NoToken at)) is = sym (ap of_lex (same at is (λ memory. cc)))
    only (Err r) is = absurd is
