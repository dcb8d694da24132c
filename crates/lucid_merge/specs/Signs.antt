-- Signatures: bits that exclude, for most rows, that two patterns include theirs, so that these rows need no comparison.
use Rattle.std.specs.Prelude.{◌≡◌, ℕ, List, Bool, true, not, ◌||◌, nat_eq, slice_index, bit_or, map}
use Rattle.std.specs.List.{fold, list_all}
use Rattle.lucid_code.specs.declared.op.Literal.{Literal}
use Rattle.lucid_tables.specs.declared.table.Row.{Row}
use Rattle.lucid_merge.specs.declared.kept.Signed.{Signed}
use Rattle.lucid_merge.specs.Marks.{slot}
use Rattle.lucid_merge.specs.Product.{union, includes}

-- The bits of a literal, by any table of bits.
abbrev pub bits_at : List ℕ → Literal → ℕ
bits_at bits l = slice_index bits (slot l)

-- These bits and those of a pattern's literals.
abbrev pub with_bits : List ℕ → ℕ → List Literal → ℕ
with_bits bits from p = fold (λ s l. bit_or s (bits_at bits l)) from p

-- The signature of a row is the bits of its pattern.
abbrev pub is_signed : List ℕ → Signed → Bool
is_signed bits s = nat_eq s.sign (with_bits bits 0 s.row.pattern)

abbrev pub AreSigned : List ℕ → List Signed → Type 0
AreSigned bits rows = list_all (is_signed bits) rows ≡ true

abbrev pub rows_of : List Signed → List Row
rows_of rows = map (λ (s : Signed). s.row) rows

-- Two patterns together include that of the row.
abbrev pub covers : List Literal → List Literal → Signed → Bool
covers p q s = includes (union p q) s.row.pattern

-- Where they do, the row's signature has no bit that this one lacks.
abbrev pub is_heard : List Literal → List Literal → ℕ → Signed → Bool
is_heard p q sign s = not (covers p q s) || nat_eq (bit_or sign s.sign) sign

abbrev pub AreHeard : List Literal → List Literal → ℕ → List Signed → Type 0
AreHeard p q sign rows = list_all (is_heard p q sign) rows ≡ true
