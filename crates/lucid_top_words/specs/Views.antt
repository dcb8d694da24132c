-- The models of the objects that a call gets.
use Rattle.std.specs.Prelude.{ℕ, List, Option}
use Rattle.lucid_io.specs.History.{Heard}
use Rattle.lucid_top_words.specs.Words.{Bytes}

-- the content of a name, if it is specified
abbrev pub Held : Type 0
Held = Bytes → Option Bytes

-- the count of faults of each name
abbrev pub Faults : Type 0
Faults = Bytes → ℕ

-- files: the content of each name, if it is specified; the number of bytes that the begun file gave; the history of the reads; the count of
-- faults of each name
pub record FilesView : Type 0 where
  pub held : Held
  pub given : ℕ
  pub heard : List Heard
  pub faults : Faults

-- a sink: the written bytes, if they are specified, and the count of its faults
pub record SinkView : Type 0 where
  pub written : Option Bytes
  pub faults : ℕ

abbrev pub files_view : {F : Type 0} → (F → Held) → (F → ℕ) → (F → List Heard) → (F → Faults) → F → FilesView
files_view held given heard faults files = record { held = held files; given = given files; heard = heard files; faults = faults files }

abbrev pub sink_view : {W : Type 0} → (W → Option Bytes) → (W → ℕ) → W → SinkView
sink_view written faults sink = record { written = written sink; faults = faults sink }

-- the same files, with these contents of names in place of the specified ones
abbrev pub holding : Held → FilesView → FilesView
holding contents files = record files { held = contents }
