-- The places of the operations that read a field.
use Rattle.std.specs.Prelude.{◌≡◌, ℕ, ◌<◌, List, if◌then◌else◌, length, nat_eq, slice_index_or, slice_set}
use Rattle.std.specs.List.{fold}
use Rattle.lucid_code.specs.declared.op.Op.{Op}
use Rattle.lucid_pass_spec.specs.Dead.{reads}
use Rattle.lucid_pass_rewrites.specs.declared.writers.Writer.{Writer}
use Rattle.lucid_pass_rewrites.specs.declared.writers.Writer.TheVariants.{Nobody, One, Many}
use Rattle.lucid_pass_rewrites.specs.Writers.{places_by, writer_at}

-- One operation may read a field twice.
abbrev pub with_reader : Writer → ℕ → Writer
with_reader Nobody at = One at
with_reader (One other) at = if nat_eq other at then One at else Many
with_reader Many at = Many

-- The operation at this place reads these fields.
abbrev pub with_readers : List Writer → List ℕ → ℕ → List Writer
with_readers readers ks at = fold (λ (rows : List Writer) k. slice_set rows k (with_reader (slice_index_or rows k Nobody) at)) readers ks

-- The reader of each field, as a writer is told.
pub record TellReads (fields : ℕ) (ops : List Op) (readers : List Writer) : Type 0 where
  pub long : length readers ≡ fields
  pub told : (k : ℕ) → k < fields → slice_index_or readers k Nobody ≡ writer_at (places_by (λ o. reads o k) 0 ops)
