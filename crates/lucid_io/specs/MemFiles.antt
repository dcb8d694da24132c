-- Files in memory, and the effect of each call of `begin` and `read` on them.
use Rattle.std.specs.Prelude.{◌≡◌, ℕ, ◌+◌, Bool, ◌||◌, if◌then◌else◌, zero, suc, List, [], ◌∷◌, drop, Option, None, Some, IsSome, is_none, slice_get}
use Rattle.std.specs.Option.{option_map, option_map_or}
use Rattle.std.specs.Str.{bytes_eq}
use Rattle.lucid_io.specs.Counts.{raised, is_failing}
use Rattle.lucid_io.specs.History.{Heard, IsNewest, begun_now, faulted_now, heard_more, times}

-- a file: its name and its bytes
pub record FileView : Type 0 where
  pub name : List ℕ
  pub bytes : List ℕ

-- the files; the numbers of the calls that fail, and of the next call; the place of the begun file, and how many of its bytes it gave since;
-- how many reads were made; the history of the calls; the name of the file of each call that failed
pub record MemFilesView : Type 0 where
  pub files : List FileView
  pub fails : List ℕ
  pub calls : ℕ
  pub begun : Option ℕ
  pub given : ℕ
  pub reads : ℕ
  pub heard : List Heard
  pub faulted : List (List ℕ)

-- the place of the first file of this name
abbrev pub place_of : List FileView → List ℕ → Option ℕ
place_of [] name = None
place_of (file ∷ files) name = if bytes_eq file.name name then Some 0 else option_map (λ i. i + 1) (place_of files name)

-- the bytes of the file at a place
abbrev pub bytes_at : List FileView → ℕ → List ℕ
bytes_at files i = option_map_or (λ file. file.bytes) (slice_get files i) []

-- the bytes of a name, if it is there
abbrev pub bytes_of : MemFilesView → List ℕ → Option (List ℕ)
bytes_of s name = option_map (bytes_at s.files) (place_of s.files name)

-- how many calls on files of this name failed
abbrev pub faults_of : MemFilesView → List ℕ → ℕ
faults_of s name = times name s.faulted

-- the file that was begun last has this name
abbrev pub IsBegun : MemFilesView → List ℕ → Type 0
IsBegun s name = IsNewest name s.heard

-- the bytes that the begun file still has after those it gave; nothing, where nothing is begun
abbrev pub left_at : List FileView → Option ℕ → ℕ → List ℕ
left_at files begun given = option_map_or (λ i. drop given (bytes_at files i)) begun []

-- the bytes of the begun file that are still unread
abbrev pub unread : MemFilesView → List ℕ
unread s = left_at s.files s.begun s.given

-- `begin` fails by its number, or since no file has the name
abbrev pub begin_fails : MemFilesView → List ℕ → Bool
begin_fails s name = is_failing s.fails s.calls || is_none (place_of s.files name)

-- after a `begin` that went well
abbrev pub after_begin : MemFilesView → List ℕ → MemFilesView
after_begin s name = record s { calls = raised s.calls; begun = place_of s.files name; given = 0; heard = begun_now name ∷ s.heard }

-- after a `begin` that failed: nothing is begun
abbrev pub after_failed_begin : MemFilesView → List ℕ → MemFilesView
after_failed_begin s name = record s { calls = raised s.calls; begun = None; given = 0; heard = begun_now name ∷ s.heard; faulted = name ∷ s.faulted }

-- after a `read` that put n bytes into the front of this buffer
abbrev pub after_read : MemFilesView → List ℕ → ℕ → MemFilesView
after_read s room n = record s { calls = raised s.calls; given = s.given + n; reads = raised s.reads; heard = heard_more n room s.heard }

-- after a `read` that failed
abbrev pub after_failed_read : MemFilesView → MemFilesView
after_failed_read s = record s { calls = raised s.calls; reads = raised s.reads; faulted = faulted_now s.heard s.faulted }
