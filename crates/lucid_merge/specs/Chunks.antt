-- Chunks of 8 kept rows. Each has bits that all its signatures have, so that a pair without one of them includes none of its rows.
use Rattle.std.specs.Prelude.{◌≡◌, ℕ, ◌*◌, ◌/◌, ◌%◌, List, [], ◌∷◌, ◌++◌, Bool, true, ◌&&◌, if◌then◌else◌, length, take, drop, nat_eq, nat_lt, slice_index, slice_set, bit_and, bit_or}
use Rattle.std.specs.List.{list_all}
use Rattle.lucid_merge.specs.declared.kept.Signed.{Signed}

-- The rows of the chunk with this number.
abbrev pub chunk : ℕ → List Signed → List Signed
chunk k rows = take 8 (drop (k * 8) rows)

-- The rows of the chunks from one number on, before another.
abbrev pub between : ℕ → ℕ → List Signed → List Signed
between from to rows = drop (from * 8) (take (to * 8) rows)

-- The row's signature has all of these bits.
abbrev pub has_common : ℕ → Signed → Bool
has_common bits s = nat_eq (bit_or s.sign bits) s.sign

-- The rows have these bits in common.
abbrev pub HaveInCommon : ℕ → List Signed → Type 0
HaveInCommon bits rows = list_all (has_common bits) rows ≡ true

-- The rows of each chunk have the bits at its number in common. A number past the end has no bits.
abbrev pub AreCommon : List ℕ → List Signed → Type 0
AreCommon commons rows = (k : ℕ) → HaveInCommon (slice_index commons k) (chunk k rows)

-- The bits, if the row with this number and this signature is one more.
abbrev pub with_common : List ℕ → ℕ → ℕ → List ℕ
with_common commons number sign =
    if nat_lt (number / 8) (length commons)
    then slice_set commons (number / 8) (bit_and (slice_index commons (number / 8)) sign)
    else (if nat_eq (number % 8) 0 && nat_eq (number / 8) (length commons) then commons ++ sign ∷ [] else commons)
