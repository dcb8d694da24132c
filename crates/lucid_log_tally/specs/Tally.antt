-- The model of a tally.
use Rattle.std.specs.Prelude.{ℕ, List, [], ◌∷◌, ◌++◌}

-- all bytes that were written, and the count of faults
pub record TallyView : Type 0 where
  pub bytes : List ℕ
  pub faults : ℕ

-- one byte more
abbrev pub with_more : TallyView → ℕ → TallyView
with_more t byte = record { bytes = t.bytes ++ byte ∷ []; faults = t.faults }
