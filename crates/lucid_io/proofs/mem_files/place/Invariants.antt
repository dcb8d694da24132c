use Rattle.std.proofs.Common.{◌≡◌, ◌+◌, map, drop}
use Rattle.std.specs.Option.{option_map}
use Rattle.lucid_io.specs.MemFiles.{place_of}
use Rattle.lucid_io.specs.MemFilesFields.{file_view}
use Rattle.lucid_io.proofs.mem_files.place.Given as goal

-- The first file of the name is as far into the rest as the loop has still to go.
abbrev pub invariant-loop-place : goal.invariant-loop-place
invariant-loop-place l = place_of (map file_view l.files.items) l.name ≡ option_map (λ i. i + l.place) (place_of (map file_view (drop l.place l.files.items)) l.name)
