-- The pieces that a text is cut into: blanks, comments and tokens, each by the bytes that write it.
use Rattle.std.specs.Prelude.{◌≡◌, ◌≢◌, ℕ, ◌+◌, ◌*◌, ◌^◌, ◌<◌, ◌≤◌, ◌⊎◌, IsTrue, List, [], ◌∷◌, ◌++◌, length, codes, Option, Some, None, fold}
use Rattle.std.specs.List.{AllPass}
use Rattle.std.specs.Char.{digit_value, is_digit}
use Rattle.lucid_lex.specs.declared.token.Kind.{Kind}
use Rattle.lucid_lex.specs.declared.token.Kind.TheVariants as kinds
use Rattle.lucid_lex.specs.Byte.{is_blank, is_name_start, is_name_byte, is_quotable, is_within_line}
use Rattle.lucid_lex.specs.declared.word.Word.{Word}
use Rattle.lucid_lex.specs.Word.{word_text}
use Rattle.lucid_lex.specs.Sign.{sign_text}

-- one blank
abbrev pub IsBlank : List ℕ → Type 0
IsBlank bytes = (b : ℕ) × (bytes ≡ b ∷ []) × IsTrue (is_blank b)

-- `//` and the bytes after it within its line
abbrev pub IsLineComment : List ℕ → Type 0
IsLineComment bytes = (body : List ℕ) × (bytes ≡ codes "//" ++ body) × AllPass is_within_line body

-- `/*`, a body without `*/`, and `*/`
abbrev pub IsBlockComment : List ℕ → Type 0
IsBlockComment bytes = (body : List ℕ) × (bytes ≡ codes "/*" ++ (body ++ codes "*/"))
    × ((before after : List ℕ) → body ≢ before ++ (codes "*/" ++ after))

-- a letter or `_`, followed by letters, digits and `_`, and no reserved word
abbrev pub IsName : List ℕ → Type 0
IsName bytes = (first : ℕ) × (more : List ℕ) × (bytes ≡ first ∷ more) × IsTrue (is_name_start first)
    × AllPass is_name_byte more × ((w : Word) → bytes ≢ word_text w)

-- the number that digits write in a base, the first counting most
abbrev pub number_of : ℕ → List ℕ → ℕ
number_of base digits = fold (λ n c. n * base + digit_value c) 0 digits

-- one or more digits of the base, and the number that they write
abbrev pub IsNumeral : ℕ → List ℕ → ℕ → Type 0
IsNumeral base digits n = (0 < length digits) × AllPass (λ c. is_digit c base) digits × (n ≡ number_of base digits)

-- a decimal numeral, or `0x` and a hexadecimal one; leading zeros are allowed, and so is every size
abbrev pub IsNumber : List ℕ → ℕ → Type 0
IsNumber bytes n = IsNumeral 10 bytes n
    ⊎ ((digits : List ℕ) × (bytes ≡ codes "0x" ++ digits) × IsNumeral 16 digits n)

-- the bytes between two quotes
abbrev pub IsQuoted : List ℕ → List ℕ → Type 0
IsQuoted bytes body = (bytes ≡ 34 ∷ (body ++ 34 ∷ [])) × AllPass is_quotable body

-- the bytes are a token of this kind
abbrev pub IsToken : List ℕ → Kind → Type 0
IsToken bytes kinds.Name = IsName bytes
IsToken bytes (kinds.Number n) = IsNumber bytes n
IsToken bytes kinds.Text = (body : List ℕ) × IsQuoted bytes body
IsToken bytes (kinds.Word w) = bytes ≡ word_text w
IsToken bytes (kinds.Sign s) = bytes ≡ sign_text s

-- the bytes are a token of this kind, or, for None, a blank or a comment
abbrev pub IsPiece : List ℕ → Option Kind → Type 0
IsPiece bytes None = IsBlank bytes ⊎ IsLineComment bytes ⊎ IsBlockComment bytes
IsPiece bytes (Some kind) = IsToken bytes kind

-- a number is below 2 ^ 64
abbrev pub Fits : Option Kind → Type 0
Fits (Some (kinds.Number n)) = n < 2 ^ 64
Fits _ = Unit {0}

-- bytes cut from a text, and their kind
pub record Piece : Type 0 where
  pub bytes : List ℕ
  pub kind : Option Kind

-- The piece is followed by the rest: no longer front of the remaining text is a piece. A number takes all its digits before its size is
-- checked, so there is no piece if they write 2 ^ 64 or more.
pub record Stands (p : Piece) (rest : List ℕ) : Type 0 where
  pub is_piece : IsPiece p.bytes p.kind
  pub longest : (q : Piece) (after : List ℕ) → IsPiece q.bytes q.kind → q.bytes ++ after ≡ p.bytes ++ rest → length q.bytes ≤ length p.bytes
  pub fits : Fits p.kind

-- no blank, comment or token begins the text
abbrev pub NothingBegins : List ℕ → Type 0
NothingBegins text = (p : Piece) (rest : List ℕ) → text ≡ p.bytes ++ rest → ¬ Stands p rest
