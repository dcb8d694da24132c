-- The effect of a call that puts a text on a sink. `written` and `faults` are those of the sink.
use Rattle.std.specs.Prelude.{◌≡◌, ℕ, ◌<◌, ◌≤◌, List, ◌++◌, Option, length, take}
use Rattle.std.specs.Io.KnownBytes.{Appends}
use Rattle.lucid_io.specs.Counts.{Rose}

-- known bytes grow by a beginning of the text, and not by all of it
abbrev pub AppendsProperPrefix : Option (List ℕ) → Option (List ℕ) → List ℕ → Type 0
AppendsProperPrefix old new text = (n : ℕ) × (n < length text) × Appends old new (take n text)

-- all of the text was appended, and no fault was met
pub record PutsAll {T : Type 0} (written : T → Option (List ℕ)) (faults : T → ℕ) (old new : T) (text : List ℕ) : Type 0 where
  pub bytes : Appends (written old) (written new) text
  pub quiet : faults new ≡ faults old

-- a proper prefix of the text was appended, and the count of faults rose
pub record PutsPart {T : Type 0} (written : T → Option (List ℕ)) (faults : T → ℕ) (old new : T) (text : List ℕ) : Type 0 where
  pub bytes : AppendsProperPrefix (written old) (written new) text
  pub cause : Rose (faults old) (faults new)
  pub later : faults old ≤ faults new

-- of the whole text all was put but `rest`
pub record Leaves {T : Type 0} (written : T → Option (List ℕ)) (faults : T → ℕ) (old now : T) (whole rest : List ℕ) : Type 0 where
  pub before : List ℕ
  pub puts : PutsAll written faults old now before
  pub parts : whole ≡ before ++ rest
