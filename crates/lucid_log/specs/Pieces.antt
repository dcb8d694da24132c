-- The texts of pieces.
use Rattle.std.specs.Prelude.{ℕ, zero, suc, ◌+◌, ◌*◌, ◌-◌, ◌/◌, ◌%◌, ◌^◌, List, [], ◌++◌, map, decimal, if◌then◌else◌, nat_lt}
use Rattle.std.specs.List.{fold, join_with_byte, range_with_len}
use Rattle.lucid_log.specs.declared.pieces.Piece.{Piece}
use Rattle.lucid_log.specs.declared.pieces.Piece.TheVariants.{Text, Number, Numbers, Hex}

-- Numbers with a comma between each two; 44 is ','.
abbrev pub numbers_text : List ℕ → List ℕ
numbers_text numbers = join_with_byte 44 (map decimal numbers)

-- A hexadecimal digit in lower case; 48 is '0', and 87 + 10 is 'a'.
abbrev pub hex_digit : ℕ → ℕ
hex_digit d = if nat_lt d 10 then 48 + d else 87 + d

-- The 16 hexadecimal digits of a number below 2^64, the highest first.
unfoldable pub hex_text : ℕ → List ℕ
hex_text n = map (λ i. hex_digit (n / 2 ^ (60 - 4 * i) % 16)) (range_with_len 0 16)

abbrev pub piece_text : Piece → List ℕ
piece_text (Text bytes) = bytes.now
piece_text (Number n) = decimal n
piece_text (Numbers numbers) = numbers_text numbers.now
piece_text (Hex n) = hex_text n

-- The pieces, one after another.
abbrev pub text_of : List Piece → List ℕ
text_of pieces = fold (λ text piece. text ++ piece_text piece) [] pieces

-- `count` pieces from this number on.
abbrev pub pieces : (ℕ → List ℕ) → ℕ → ℕ → List ℕ
pieces piece from zero = []
pieces piece from (suc count) = piece from ++ pieces piece (from + 1) count
