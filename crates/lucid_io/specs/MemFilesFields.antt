-- How the fields of the files in memory are seen.
use Rattle.std.specs.Prelude.{ℕ, ◌<◌, ◌≤◌, List, [], length, map, Option, None, string_bytes}
use Rattle.std.specs.Option.{ForSome}
use Rattle.lucid_io.specs.MemFiles.{FileView, MemFilesView, bytes_at}
use Rattle.lucid_io.specs.declared.mem_files.MemFile.{MemFile}

-- a file, as contracts see it
abbrev pub file_view : MemFile → FileView
file_view file = record { name = string_bytes file.name; bytes = file.bytes.items }

-- files that were just made: nothing is begun, nothing given, and no call was made
abbrev pub new_files : List MemFile → List ℕ → MemFilesView
new_files files fails = record { files = map file_view files; fails = fails; calls = 0; begun = None; given = 0; reads = 0; heard = []; faulted = [] }

-- the place, if it is one, has a file
abbrev pub IsThere : List FileView → Option ℕ → Type 0
IsThere files place = ForSome place (λ i. i < length files)

-- the begun file gave no more than it has
abbrev pub IsWithin : List FileView → Option ℕ → ℕ → Type 0
IsWithin files begun given = ForSome begun (λ i. given ≤ length (bytes_at files i))
