-- The words of a call.
use Rattle.std.specs.Prelude.{ℕ, ◌^◌, ◌&&◌, List, [], ◌∷◌, Option, Some, None, if◌then◌else◌, length, nat_le, nat_lt, option_map, option_and_then}
use Rattle.std.specs.List.{slice_index_or}
use Rattle.std.specs.Str.{bytes_eq}
use Rattle.std.specs.Str.Parse.{digits_value}
use Rattle.std.specs.Fmt.{decimal}

-- the bytes of a word, a name or a text
abbrev pub Bytes : Type 0
Bytes = List ℕ

-- the word of this number, from 0; none where there is no such word
abbrev pub word_at : List Bytes → ℕ → Bytes
word_at words at = slice_index_or words at []

-- the number below 2^64 whose decimal text the word is
abbrev pub number_of : Bytes → Option ℕ
number_of word = let n = digits_value 10 word in if nat_lt n (2 ^ 64) && bytes_eq word (decimal n) then Some n else None

-- the number of events that the word writes: from 1 to 10,000
abbrev pub count_of : Bytes → Option ℕ
count_of word = option_and_then (λ n. if nat_le 1 n && nat_le n 10000 then Some n else None) (number_of word)

-- all of them are numbers
abbrev pub numbers_of : List Bytes → Option (List ℕ)
numbers_of [] = Some []
numbers_of (word ∷ words) = option_and_then (λ n. option_map (λ ns. n ∷ ns) (numbers_of words)) (number_of word)

-- arguments of an event, of which there are at most 8; no event has more
abbrev pub arguments_of : List ℕ → Option (List ℕ)
arguments_of ns = if nat_le (length ns) 8 then Some ns else None
