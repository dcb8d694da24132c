-- The hashers of a table, by its seed.
use Rattle.std.specs.Prelude.{ℕ, List, [], ◌∷◌, fold}
use Rattle.std.specs.Int.{to_le_bytes, w64}
use Rattle.std.specs.Hash.DefaultHasher.{finish, initial, write}
use Rattle.std.specs.declared.hash.DefaultHasher.{DefaultHasher}

-- With a part more, and a byte that ends it.
abbrev pub with_part : DefaultHasher → List ℕ → DefaultHasher
with_part parts bytes = write (write parts bytes) (255 ∷ [])

-- A hasher that has taken in the hash of these parts.
abbrev pub started : DefaultHasher → DefaultHasher
started parts = write initial (to_le_bytes w64 (finish parts))

-- A hasher that is seeded by these parts, in their order.
abbrev pub seeded_by : List (List ℕ) → DefaultHasher
seeded_by parts = started (fold with_part initial parts)
