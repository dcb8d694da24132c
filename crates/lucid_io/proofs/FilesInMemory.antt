-- Lemmas on the fields of files in memory.
use Rattle.std.proofs.Common.{◌≡◌, ℕ, zero, suc, ◌<◌, List, [], ◌∷◌, length, get_or, map, arith}
use Rattle.lucid_io.specs.MemFiles.{FileView, bytes_at}
use Rattle.lucid_io.specs.MemFilesFields.{file_view}
use Rattle.lucid_io.specs.declared.mem_files.MemFile.{MemFile}

-- the bytes of one of the files
pub bytes_at-map : (files : List MemFile) (i : ℕ) (x : MemFile) → i < length (map file_view files) → x ≡ get_or files i x → bytes_at (map file_view files) i ≡ x.bytes.items
bytes_at-map [] i x lt is = absurd (omega (arith, lt))
bytes_at-map (y ∷ files) zero x lt is = cc
bytes_at-map (y ∷ files) (suc i) x lt is = bytes_at-map files i x (omega (arith, lt)) is
