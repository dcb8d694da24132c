-- What a note adds to each history.
use Rattle.std.specs.Prelude.{ℕ, suc, List, ◌∷◌, ◌++◌, take}
use Rattle.lucid_io.specs.History.{Heard, begun_now, faulted_now, heard_more}
use Rattle.lucid_io.specs.declared.past.Note.{Note}
use Rattle.lucid_io.specs.declared.past.Note.TheVariants as note

-- the history of files
abbrev pub heard_then : List Heard → Note → List Heard
heard_then all (note.Begun name) = begun_now name.now ∷ all
heard_then all (note.Gave room n) = heard_more n room.now all
heard_then all n = all

-- the name of the newest entry, once for each failed call
abbrev pub faulted_then : List Heard → List (List ℕ) → Note → List (List ℕ)
faulted_then all faulted note.Failed = faulted_now all faulted
faulted_then all faulted n = faulted

-- the bytes that a sink took
abbrev pub taken_then : List ℕ → Note → List ℕ
taken_then all (note.Took piece n) = all ++ take n piece.now
taken_then all n = all

-- the number of calls
abbrev pub calls_then : ℕ → Note → ℕ
calls_then calls note.Called = suc calls
calls_then calls n = calls

-- the number of failed calls
abbrev pub failed_then : ℕ → Note → ℕ
failed_then failed note.Failed = suc failed
failed_then failed n = failed
