-- The places of those that write a field.
use Rattle.std.specs.Prelude.{◌≡◌, ℕ, ◌+◌, List, [], ◌∷◌, Bool, Option, None, if◌then◌else◌, slice_get, slice_index_or}
use Rattle.lucid_code.specs.declared.op.Op.{Op}
use Rattle.lucid_code.specs.Uses.{writes}
use Rattle.lucid_pass_rewrites.specs.declared.writers.Writer.{Writer}
use Rattle.lucid_pass_rewrites.specs.declared.writers.Writer.TheVariants.{Nobody, One, Many}

abbrev pub nobody : Writer
nobody = Nobody

abbrev pub with_writer : Writer → ℕ → Writer
with_writer Nobody at = One at
with_writer (One other) at = Many
with_writer Many at = Many

-- The places of the operations that pass a test, of which the first has place n.
abbrev pub places_by : (Op → Bool) → ℕ → List Op → List ℕ
places_by p n [] = []
places_by p n (o ∷ ops) = if p o then n ∷ places_by p (n + 1) ops else places_by p (n + 1) ops

-- The places of those that write field k.
abbrev pub places_of : ℕ → ℕ → List Op → List ℕ
places_of k = places_by (λ o. writes o k)

abbrev pub writer_at : List ℕ → Writer
writer_at [] = Nobody
writer_at (n ∷ []) = One n
writer_at (n ∷ m ∷ ns) = Many

-- The writer of each field.
abbrev pub Tells : List Op → List Writer → Type 0
Tells ops writers = (k : ℕ) → slice_index_or writers k Nobody ≡ writer_at (places_of k 0 ops)

-- The operation at the place of a writer.
abbrev pub found_at : List Op → Writer → Option Op
found_at ops Nobody = None
found_at ops (One at) = slice_get ops at
found_at ops Many = None
