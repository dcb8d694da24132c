-- How the signs are written.
use Rattle.std.specs.Prelude.{ℕ, List, Option, codes, find, nat_eq}
use Rattle.std.specs.List.{starts_with}
use Rattle.lucid_lex.specs.declared.sign.Sign.{Sign}
use Rattle.lucid_lex.specs.declared.sign.Sign.TheVariants as signs
use Rattle.lucid_lex.specs.declared.sign.TheConstants.{SIGNS}

-- the bytes of a sign
abbrev pub sign_text : Sign → List ℕ
sign_text signs.SatAdd = codes "|+|"
sign_text signs.SatSub = codes "|-|"
sign_text signs.AndAnd = codes "&&"
sign_text signs.OrOr = codes "||"
sign_text signs.EqualEqual = codes "=="
sign_text signs.NotEqual = codes "!="
sign_text signs.LessEqual = codes "<="
sign_text signs.GreaterEqual = codes ">="
sign_text signs.ShiftLeft = codes "<<"
sign_text signs.ShiftRight = codes ">>"
sign_text signs.Arrow = codes "->"
sign_text signs.Plus = codes "+"
sign_text signs.Minus = codes "-"
sign_text signs.And = codes "&"
sign_text signs.Or = codes "|"
sign_text signs.Caret = codes "^"
sign_text signs.Tilde = codes "~"
sign_text signs.Not = codes "!"
sign_text signs.Less = codes "<"
sign_text signs.Greater = codes ">"
sign_text signs.Equal = codes "="
sign_text signs.OpenParen = codes "("
sign_text signs.CloseParen = codes ")"
sign_text signs.OpenBrace = codes "{"
sign_text signs.CloseBrace = codes "}"
sign_text signs.Comma = codes ","
sign_text signs.Semicolon = codes ";"
sign_text signs.Dot = codes "."

-- the first sign of the table that a text begins with
unfoldable pub sign_at : List ℕ → Option Sign
sign_at text = find (λ s. starts_with nat_eq text (sign_text s)) SIGNS
