-- The effects of the calls of a snapshot.
use Rattle.std.specs.Prelude.{◌≡◌, ℕ, suc, ◌+◌, ◌-◌, ◌<◌, List, [], None, ◌&&◌, if◌then◌else◌, length, nat_eq, slice_index_or}
use Rattle.lucid_base.specs.Cells.{row_of}
use Rattle.lucid_tables.specs.Numbers.{is_in}
use Rattle.lucid_base.specs.declared.event.Event.{Event}
use Rattle.lucid_pipe.specs.Pipe.{PipeParts, entered, packet_at, sizes}
use Rattle.lucid_snap.specs.Snap.{Follows, SnapParts}

-- Once a packet passed stage k: the stage is copied where it is the first that isn't, and the snapshot waits for one less where one left.
pub record HasPassed (snap : SnapParts) (pipe : PipeParts) (k : ℕ) (new : SnapParts) : Type 0 where
  pub stages : new.stages ≡ snap.stages
  pub copied : new.copied ≡ (if nat_eq k snap.copied then suc k else snap.copied)
  pub old : new.old ≡ (if nat_eq (k + 1) (length snap.stages) then snap.old - 1 else snap.old)
  pub sizes : sizes new.copies ≡ sizes snap.copies
  pub rows : (g : ℕ) → row_of new.copies g ≡ (if nat_eq k snap.copied && is_in g (slice_index_or snap.stages k []) then row_of pipe.cells g else row_of snap.copies g)

-- An event that enters keeps that a snapshot follows.
abbrev pub EnterKeeps : Type 0
EnterKeeps = (pipe : PipeParts) (snap : SnapParts) (cells : List (List ℕ)) (event : Event) (now me : ℕ) → Follows snap pipe cells → packet_at pipe 0 ≡ None → 0 < length pipe.slots → Follows snap (entered pipe event now me) cells
