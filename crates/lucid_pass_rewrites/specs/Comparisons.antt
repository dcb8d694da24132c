-- The tests that fields represent, as a table, and the fields that are read, as marks.
use Rattle.std.specs.Prelude.{◌≡◌, ℕ, ◌<◌, List, Bool, true, false, not, Option, None, if◌then◌else◌, length, slice_get, slice_index_or}
use Rattle.std.specs.Option.{option_and_then, option_map_or}
use Rattle.lucid_code.specs.declared.op.Op.{Op}
use Rattle.lucid_code.specs.Uses.{written_by}
use Rattle.lucid_pass_spec.specs.declared.direct.Test.{Test}
use Rattle.lucid_pass_spec.specs.Dead.{is_read}
use Rattle.lucid_pass_spec.specs.Direct.{tested, direct_from}
use Rattle.lucid_pass_rewrites.specs.declared.writers.Writer.{Writer}
use Rattle.lucid_pass_rewrites.specs.declared.writers.Writer.TheVariants.{Nobody, One, Many}

-- The test that field c represents.
abbrev pub direct_by : List (Option Test) → ℕ → Option Test
direct_by table c = slice_index_or table c None

-- The table says it of each field.
abbrev pub Stands : List ℕ → List Op → List (Option Test) → Type 0
Stands widths ops table = (c : ℕ) → direct_by table c ≡ direct_from widths ops c

-- The test that a field written here represents, and whether it is tested outside the guard of its writer.
abbrev pub test_at : List ℕ → List Op → Writer → Bool → Option Test
test_at widths ops Nobody uncovered = None
test_at widths ops (One at) uncovered = option_and_then (λ w. if not uncovered then tested widths w.act else None) (slice_get ops at)
test_at widths ops Many uncovered = None

abbrev pub is_still_needed : List (Option Test) → List Bool → Op → Bool
is_still_needed table read o = option_map_or (λ k. option_map_or (λ t. slice_index_or read k false) (direct_by table k) true) (written_by o.act) true

pub record ReadMarks (fields : ℕ) (read : List Bool) (ops : List Op) : Type 0 where
  pub long : length read ≡ fields
  pub told : (k : ℕ) → k < fields → slice_index_or read k false ≡ is_read ops k
