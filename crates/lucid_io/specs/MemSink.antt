-- A sink in memory, and the effect of each write on it.
use Rattle.std.specs.Prelude.{ℕ, ◌-◌, Bool, ◌||◌, ◌&&◌, nat_lt, nat_le, List, ◌++◌, length, take, min}
use Rattle.lucid_io.specs.Counts.{raised, is_failing}

-- the written bytes; the capacity in bytes; the numbers of the writes that fail, and of the next write; the number of failed writes
pub record MemSinkView : Type 0 where
  pub bytes : List ℕ
  pub room : ℕ
  pub fails : List ℕ
  pub calls : ℕ
  pub faults : ℕ

-- a write fails by its number, or since its piece isn't empty and the room is full
abbrev pub write_fails : MemSinkView → List ℕ → Bool
write_fails s piece = is_failing s.fails s.calls || (nat_lt 0 (length piece) && nat_le s.room (length s.bytes))

-- how many bytes of a piece are taken: as many as there is room for
abbrev pub taken_of : MemSinkView → List ℕ → ℕ
taken_of s piece = min (length piece) (s.room - length s.bytes)

-- after a write that went well
abbrev pub after_write : MemSinkView → List ℕ → MemSinkView
after_write s piece = record s { bytes = s.bytes ++ take (taken_of s piece) piece; calls = raised s.calls }

-- after a write that failed: nothing was taken
abbrev pub after_failed_write : MemSinkView → MemSinkView
after_failed_write s = record s { calls = raised s.calls; faults = raised s.faults }
