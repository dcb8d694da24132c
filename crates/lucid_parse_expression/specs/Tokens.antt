-- The contents of the tokens still to read.
use Rattle.std.specs.Prelude.{List, [], ◌∷◌, Option, Some, None}
use Rattle.lucid_parse_expression.specs.declared.tokens.Tokens.{Tokens}
use Rattle.lucid_parse_expression.specs.declared.lexeme.Lexeme as code
use Rattle.lucid_parse_expression.specs.declared.lexeme.Lexeme.TheVariants as codes
use Rattle.lucid_parse_spec.specs.Lexemes as lexemes
use Rattle.lucid_parse_spec.specs.Lexemes.{Lexeme, lexemes_of}

-- a token of the program's reading, as the grammar sees it
abbrev pub says : code.Lexeme → Lexeme
says (codes.Name n) = lexemes.Name n.bytes.now
says (codes.Number n) = lexemes.Number n
says (codes.Text t) = lexemes.Text t.bytes.now
says (codes.Word w) = lexemes.Word w
says (codes.Sign s) = lexemes.Sign s

unfoldable pub said : Tokens → List Lexeme
said t = lexemes_of t.text.now t.tokens.now

-- the first token and those after it
abbrev pub front : Option (code.Lexeme × Tokens) → List Lexeme
front None = []
front (Some x) = says x.0 ∷ said x.1
