-- The text of a drive with a snapshot.
use Rattle.std.specs.Prelude.{ℕ, List, Option, Result, Ok, Err}
use Rattle.lucid_io.specs.Puts.{PutsAll, PutsPart, Leaves}
use Rattle.lucid_snap.specs.declared.error.SnapError.TheVariants as error
use Rattle.lucid_snap.specs.declared.error.SnapError.{SnapError}

-- All of the text; a proper prefix of it if the count of faults rose; or, when out of memory, a prefix.
abbrev pub Writes : {T : Type 0} → (T → Option (List ℕ)) → (T → ℕ) → T → T → List ℕ → Result (Unit {0}) SnapError → Type 0
Writes written faults old new text (Ok u) = PutsAll written faults old new text
Writes written faults old new text (Err error.WriteFault) = PutsPart written faults old new text
Writes written faults old new text (Err error.Memory) = (rest : List ℕ) × Leaves written faults old new text rest
