-- The one piece that begins a text, by a computation on the text. The functions that look for it give this; that it is
-- the longest piece is a law about these definitions.
use Rattle.std.specs.Prelude.{ℕ, ◌+◌, ◌^◌, Bool, false, ◌&&◌, ◌==◌, if◌then◌else◌, nat_lt, List, [], ◌∷◌, length, take, drop, Option, Some, None, option_map, option_and_then, unwrap_or}
use Rattle.std.specs.List.{prefix_len}
use Rattle.std.specs.Char.{is_digit}
use Rattle.lucid_lex.specs.declared.byte.Class.{Class}
use Rattle.lucid_lex.specs.declared.byte.Class.TheVariants.{Blank, Quote, Slash, Digit, Letter, Mark}
use Rattle.lucid_lex.specs.declared.front.Front.{Front}
use Rattle.lucid_lex.specs.declared.token.Kind.{Kind}
use Rattle.lucid_lex.specs.declared.token.Kind.TheVariants as kinds
use Rattle.lucid_lex.specs.Byte.{is_name_byte, is_quotable, is_within_line, class_of}
use Rattle.lucid_lex.specs.Word.{word_in}
use Rattle.lucid_lex.specs.Sign.{sign_text, sign_at}
use Rattle.lucid_lex.specs.Piece.{number_of}

-- a piece of this length: a blank or a comment; a token
abbrev pub gap : ℕ → Option Front
gap len = Some (record { len = len; kind = None })

abbrev pub token : ℕ → Kind → Option Front
token len kind = Some (record { len = len; kind = Some kind })

-- a name's bytes are a reserved word or a name
abbrev pub kind_of_name : List ℕ → Kind
kind_of_name bytes = unwrap_or (option_map (λ w. kinds.Word w) (word_in bytes)) kinds.Name

unfoldable pub name_front : List ℕ → Option Front
name_front text = token (prefix_len is_name_byte text) (kind_of_name (take (prefix_len is_name_byte text) text))

-- how many digits of a base the text begins with
abbrev pub digits_len : ℕ → List ℕ → ℕ
digits_len base text = prefix_len (λ c. is_digit c base) text

-- the digits behind `0x` (48 and 120), where there is one
unfoldable pub after_prefix : List ℕ → Option (List ℕ)
after_prefix (a ∷ b ∷ digits) = if (a == 48 && b == 120) && nat_lt 0 (digits_len 16 digits) then Some digits else None
after_prefix _ = None

-- a number of this size, where it fits
abbrev pub number_token : ℕ → ℕ → Option Front
number_token len n = if nat_lt n (2 ^ 64) then token len (kinds.Number n) else None

-- the numeral that the digits begin with, in a base, behind a prefix of this length
abbrev pub numeral_front : ℕ → ℕ → List ℕ → Option Front
numeral_front base skipped digits = number_token (skipped + digits_len base digits) (number_of base (take (digits_len base digits) digits))

abbrev pub number_by : List ℕ → Option (List ℕ) → Option Front
number_by text None = numeral_front 10 0 text
number_by text (Some digits) = numeral_front 16 2 digits

unfoldable pub number_front : List ℕ → Option Front
number_front text = number_by text (after_prefix text)

-- whether a quote (34) is next
abbrev pub closes : List ℕ → Bool
closes [] = false
closes (b ∷ bs) = b == 34

unfoldable pub quoted_front : List ℕ → Option Front
quoted_front [] = None
quoted_front (b ∷ body) = if closes (drop (prefix_len is_quotable body) body) then token (prefix_len is_quotable body + 2) kinds.Text else None

-- the offset at which the first `*/` (42 and 47) ends, where the text begins at this one
abbrev pub end_of_block : ℕ → List ℕ → Option ℕ
end_of_block at [] = None
end_of_block at (a ∷ []) = None
end_of_block at (a ∷ b ∷ bs) = if a == 42 && b == 47 then Some (at + 2) else end_of_block (at + 1) (b ∷ bs)

unfoldable pub comment_front : List ℕ → Option Front
comment_front (a ∷ b ∷ body) = if b == 47 then gap (prefix_len is_within_line body + 2) else (if b == 42 then option_and_then (λ n. gap (n + 2)) (end_of_block 0 body) else None)
comment_front _ = None

unfoldable pub sign_front : List ℕ → Option Front
sign_front text = option_and_then (λ s. token (length (sign_text s)) (kinds.Sign s)) (sign_at text)

abbrev pub front_in : Class → List ℕ → Option Front
front_in Blank text = gap 1
front_in Quote text = quoted_front text
front_in Slash text = comment_front text
front_in Digit text = number_front text
front_in Letter text = name_front text
front_in Mark text = sign_front text

-- the piece that begins a text
unfoldable pub front_of : List ℕ → Option Front
front_of [] = None
front_of (b ∷ bs) = front_in (class_of b) (b ∷ bs)
