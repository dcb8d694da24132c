-- The text that a call writes to a sink. `written` and `faults` are those of the sink.
use Rattle.std.specs.Prelude.{◌≡◌, ℕ, ◌≤◌, ◌⊎◌, Option, Ok, Err, length, take}
use Rattle.std.specs.Io.KnownBytes.{Appends, Keeps}
use Rattle.lucid_io.specs.Puts.{PutsAll, PutsPart}
use Rattle.lucid_top_words.specs.declared.refusal.Refusal.{Refusal}
use Rattle.lucid_top_words.specs.declared.refusal.Refusal.TheVariants as refusal
use Rattle.lucid_top_words.specs.Outcome.{End, Outcome, IsTheAnswer}
use Rattle.lucid_top_words.specs.Words.{Bytes}

-- all of the text, or, where the count of faults rose, a proper prefix
abbrev pub Said : {T : Type 0} → (T → Option Bytes) → (T → ℕ) → T → T → Bytes → Type 0
Said written faults old new text = PutsAll written faults old new text ⊎ PutsPart written faults old new text

-- nothing was written, and no fault was met
pub record Untouched {T : Type 0} (written : T → Option Bytes) (faults : T → ℕ) (old new : T) : Type 0 where
  pub keeps : Keeps (written old) (written new)
  pub quiet : faults new ≡ faults old

-- a prefix of the text was written, and no fault was met
pub record PutsSome {T : Type 0} (written : T → Option Bytes) (faults : T → ℕ) (old new : T) (text : Bytes) : Type 0 where
  pub count : ℕ
  pub within : count ≤ length text
  pub bytes : Appends (written old) (written new) (take count text)
  pub quiet : faults new ≡ faults old

-- after which of its bytes a text that was begun may end if memory runs out: after none, or after any
abbrev pub nowhere : Bytes → Type 0
nowhere begun = ⊥

abbrev pub anywhere : Bytes → Type 0
anywhere begun = Unit {0}

-- How a command refused whose files were read: by the answer, with nothing written, except at a fault or if memory runs out. If memory
-- runs out, a text that was begun ends only after bytes that `stops` allows.
abbrev pub Refuses : {T : Type 0} → (Bytes → Type 0) → (Outcome → Type 0) → (T → Option Bytes) → (T → ℕ) → T → T → Refusal → Type 0
Refuses stops answers written faults old new refusal.WriteFault =
    (text : Bytes) × IsTheAnswer answers (Ok text) × PutsPart written faults old new text
Refuses stops answers written faults old new refusal.Memory =
    Untouched written faults old new
    ⊎ ((text : Bytes) × IsTheAnswer answers (Ok text) × (begun : PutsSome written faults old new text) × stops (take begun.count text))
Refuses stops answers written faults old new (refusal.ReadFault word) = ⊥
Refuses stops answers written faults old new (refusal.TooLong word) = ⊥
Refuses stops answers written faults old new r = IsTheAnswer answers (Err r) × Untouched written faults old new

-- the effect of a command after reading its files: it writes the answer, or refuses
abbrev pub Performs : {T : Type 0} → (Bytes → Type 0) → (Outcome → Type 0) → (T → Option Bytes) → (T → ℕ) → T → T → End → Type 0
Performs stops answers written faults old new (Ok u) =
    (text : Bytes) × IsTheAnswer answers (Ok text) × PutsAll written faults old new text
Performs stops answers written faults old new (Err r) = Refuses stops answers written faults old new r
