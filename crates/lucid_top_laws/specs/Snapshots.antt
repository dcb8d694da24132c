-- Snapshots: the arrays are copied stage by stage while packets move in any order, and the copy holds the cells of the handlers run whole.
use Rattle.std.specs.Prelude.{◌≡◌, ℕ, suc, ◌+◌, ◌-◌, List, [], ◌∷◌, Option, None, Some, All, if◌then◌else◌, length, nat_eq, slice_index_or}
use Rattle.lucid_core.specs.Parts.{CoreParts}
use Rattle.lucid_core.specs.Step.{steps}
use Rattle.lucid_normal_spec.specs.Stands.{Happens}
use Rattle.lucid_pipe.specs.Moves.{Flight, Move, enter, go, after_moves, moved}
use Rattle.lucid_pipe.specs.Packets.{Packet}
use Rattle.lucid_pipe.specs.Pipe.{PipeParts, gone, in_flight, packet_at}
use Rattle.lucid_snap.specs.Snap.{SnapParts, arrays_of, free_first, snap_of}
use Rattle.lucid_tables.specs.Numbers.{is_in}
use Rattle.lucid_tables.specs.Placed.{PlacedParts}
use Rattle.lucid_top_laws.specs.Moves.{entries}

-- The snapshot as it begins: all rows, the stages that no packet in flight has still to execute, and the number of these packets.
abbrev pub begun : PipeParts → SnapParts
begun pipe = snap_of pipe.cells (arrays_of pipe.placed.stages) (free_first pipe.slots) (in_flight pipe)

-- These rows, numbered from n on; those of the listed arrays are replaced by the rows of the cells.
abbrev pub copied_from : List ℕ → ℕ → List (List ℕ) → List (List ℕ) → List (List ℕ)
copied_from arrays n cells [] = []
copied_from arrays n [] (row ∷ rows) = row ∷ rows
copied_from arrays n (cell ∷ cells) (row ∷ rows) = (if is_in n arrays then cell else row) ∷ copied_from arrays (suc n) cells rows

-- The snapshot after a packet executed stage k of this pipe. If stage k is the next to be copied, its arrays are copied. If it is the last
-- stage, the packet departed, and the snapshot waits for one packet less.
abbrev pub passed : SnapParts → PipeParts → ℕ → SnapParts
passed snap pipe k = snap_of
    (if nat_eq k snap.copied then copied_from (slice_index_or snap.stages k []) 0 pipe.cells snap.copies else snap.copies)
    snap.stages
    (if nat_eq k snap.copied then suc k else snap.copied)
    (if nat_eq (k + 1) (length snap.stages) then snap.old - 1 else snap.old)

-- The snapshot after a move on this pipe: it changes only if the packet in slot k moves on.
abbrev pub snap_goes : PipeParts → SnapParts → ℕ → Option Packet → Option Packet → SnapParts
snap_goes pipe snap k None next = snap
snap_goes pipe snap k (Some p) (Some q) = snap
snap_goes pipe snap k (Some p) None = passed snap (gone pipe k p) k

abbrev pub snap_moved : PipeParts → SnapParts → Move → SnapParts
snap_moved pipe snap (enter event now me) = snap
snap_moved pipe snap (go k) = snap_goes pipe snap k (packet_at pipe k) (packet_at pipe (k + 1))

abbrev pub snap_from : Flight → SnapParts → List Move → SnapParts
snap_from f snap [] = snap
snap_from f snap (m ∷ moves) = snap_from (moved f m) (snap_moved f.pipe snap m) moves

-- The snapshot that begins after the first moves, as it is after the later moves.
abbrev pub snapshot : PlacedParts → List Move → List Move → SnapParts
snapshot placed first later = snap_from (after_moves placed first) (begun (after_moves placed first).pipe) later

-- For all moves before and after it begins: once it waits for no packet, its rows are the cells after exactly the events that entered
-- before it began, run whole in the order of entry.
abbrev pub SnapshotsRunWhole : PlacedParts → CoreParts → Type 0
SnapshotsRunWhole placed core = (first later : List Move) → All (λ e. Happens core e.me e.event) (entries placed first) →
    (snapshot placed first later).old ≡ 0 → (snapshot placed first later).copies ≡ (steps core (entries placed first)).cells
