-- Which bytes a piece of a text may have.
use Rattle.std.specs.Prelude.{ℕ, Bool, not, ◌&&◌, ◌||◌, ◌==◌, if◌then◌else◌}
use Rattle.std.specs.Char.{is_ascii_digit, is_ascii_alphabetic, is_ascii_alphanumeric}
use Rattle.std.specs.Int.{is_in_range}
use Rattle.lucid_lex.specs.declared.byte.Class.{Class}
use Rattle.lucid_lex.specs.declared.byte.Class.TheVariants.{Blank, Quote, Slash, Digit, Letter, Mark}

-- space, tab, line feed and carriage return
abbrev pub is_blank : ℕ → Bool
is_blank b = (b == 32 || b == 9) || (b == 10 || b == 13)

-- a letter or `_`
abbrev pub is_name_start : ℕ → Bool
is_name_start b = is_ascii_alphabetic b || b == 95

-- a letter, a digit or `_`
abbrev pub is_name_byte : ℕ → Bool
is_name_byte b = is_ascii_alphanumeric b || b == 95

-- the bytes between quotes: printable ASCII except the quote (34) and the backslash (92)
abbrev pub is_quotable : ℕ → Bool
is_quotable b = is_in_range 0x20 0x7E b && (not (b == 34) && not (b == 92))

-- the bytes of a comment to the end of its line: all except the line feed (10)
abbrev pub is_within_line : ℕ → Bool
is_within_line b = not (b == 10)

-- which pieces may begin with this byte: 34 is the quote, 47 the slash
abbrev pub class_of : ℕ → Class
class_of b =
    if is_blank b then Blank
    else (if b == 34 then Quote
    else (if b == 47 then Slash
    else (if is_ascii_digit b then Digit
    else (if is_name_start b then Letter
    else Mark))))
