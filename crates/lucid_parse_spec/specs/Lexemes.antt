-- Tokens as the grammar sees them: a name and a text by their bytes, a number by its value, and none by its place.
use Rattle.std.specs.Prelude.{ℕ, ◌-◌, List, length, take, drop, map}
use Rattle.lucid_lex.specs.declared.sign.Sign as sign_type
use Rattle.lucid_lex.specs.declared.word.Word as word_type
use Rattle.lucid_lex.specs.declared.token.Kind.{Kind}
use Rattle.lucid_lex.specs.declared.token.Kind.TheVariants as kinds
use Rattle.lucid_lex.specs.declared.token.Token.{Token}
use Rattle.lucid_lex.specs.Reading.{bytes_of}

-- The content of a token; a text has the bytes between its quotes. Two tokens are the same to the grammar if their content is.
pub data Lexeme : Type 0 where
  Name : List ℕ → Lexeme
  Number : ℕ → Lexeme
  Text : List ℕ → Lexeme
  Word : word_type.Word → Lexeme
  Sign : sign_type.Sign → Lexeme

-- bytes without the first and the last
abbrev pub within_quotes : List ℕ → List ℕ
within_quotes bytes = take (length bytes - 2) (drop 1 bytes)

-- the content of a token of this kind with these bytes
abbrev pub lexeme : List ℕ → Kind → Lexeme
lexeme bytes kinds.Name = Name bytes
lexeme bytes (kinds.Number n) = Number n
lexeme bytes kinds.Text = Text (within_quotes bytes)
lexeme bytes (kinds.Word w) = Word w
lexeme bytes (kinds.Sign s) = Sign s

abbrev pub lexeme_of : List ℕ → Token → Lexeme
lexeme_of text t = lexeme (bytes_of text t) t.kind

-- the contents of the tokens of a text, in order
abbrev pub lexemes_of : List ℕ → List Token → List Lexeme
lexemes_of text ts = map (lexeme_of text) ts
