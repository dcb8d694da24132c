-- Snapshots of a pipe whose packets move.
use Rattle.std.specs.Prelude.{◌≡◌, ℕ, suc, ◌<◌, ◌≤◌, List, [], ◌∷◌, Option, None, Some, if◌then◌else◌, length, map, nat_lt}
use Rattle.lucid_base.specs.Cells.{row_of, zero_cells}
use Rattle.lucid_tables.specs.Placed.{stage_of}
use Rattle.lucid_tables.specs.declared.stage.StageCode.{StageCode}
use Rattle.lucid_pipe.specs.Packets.{Packet}
use Rattle.lucid_pipe.specs.Pipe.{PipeParts, sizes}
use Rattle.lucid_pipe.specs.Settled.{settled_from}

-- The number of packets in these slots.
abbrev pub many : List (Option Packet) → ℕ
many [] = 0
many (None ∷ slots) = many slots
many (Some p ∷ slots) = suc (many slots)

-- The n oldest packets alone: those with fewer than n further on.
abbrev pub oldest : ℕ → List (Option Packet) → List (Option Packet)
oldest n [] = []
oldest n (slot ∷ slots) = (if nat_lt (many slots) n then slot else None) ∷ oldest n slots

-- The number of free slots before the first packet: no packet of these has still to execute exactly this many stages.
abbrev pub free_first : List (Option Packet) → ℕ
free_first [] = 0
free_first (None ∷ slots) = suc (free_first slots)
free_first (Some p ∷ slots) = 0

-- The arrays of each stage.
abbrev pub arrays_of : List StageCode → List (List ℕ)
arrays_of stages = map (λ (s : StageCode). s.arrays) stages

-- Contracts see a `Snap` as these: for each array as many cells as it has, the arrays of each stage, how many stages are copied, which are
-- the first, and how many packets it waits for.
pub record SnapParts : Type 0 where
  pub copies : List (List ℕ)
  pub stages : List (List ℕ)
  pub copied : ℕ
  pub old : ℕ

-- The cells after the n oldest packets alone run their remaining stages, the most advanced first.
abbrev pub left_by_oldest : PipeParts → ℕ → List (List ℕ)
left_by_oldest pipe n = (settled_from pipe.placed.code pipe.placed.stages (oldest n pipe.slots) pipe.cells).cells

-- The snapshot follows a pipe for these cells.
pub record Follows (snap : SnapParts) (pipe : PipeParts) (cells : List (List ℕ)) : Type 0 where
  pub long : length pipe.slots ≡ length pipe.placed.stages
  -- the code has arrays of these sizes, and its stages have these lists
  pub sizes : sizes snap.copies ≡ sizes (zero_cells pipe.placed.code.arrays)
  pub stages : snap.stages ≡ arrays_of pipe.placed.stages
  pub enough : snap.old ≤ many pipe.slots
  -- a stage is copied exactly where none of the oldest has still to execute it
  pub copied : snap.copied ≡ free_first (oldest snap.old pipe.slots)
  -- the copies are the given cells
  pub copies : (g k : ℕ) → stage_of pipe.placed.stages g ≡ Some k → k < snap.copied → row_of snap.copies g ≡ row_of cells g
  -- the oldest packets make the other stages' arrays the given cells
  pub others : (g k : ℕ) → stage_of pipe.placed.stages g ≡ Some k → snap.copied ≤ k → row_of (left_by_oldest pipe snap.old) g ≡ row_of cells g
  -- an array that is in no stage holds 0
  pub idle : (g : ℕ) → stage_of pipe.placed.stages g ≡ None → (row_of cells g ≡ row_of (zero_cells pipe.placed.code.arrays) g) × (row_of snap.copies g ≡ row_of (zero_cells pipe.placed.code.arrays) g)
  -- there are given cells for each array
  pub given : length cells ≡ length snap.copies

-- It follows the pipe, for some cells.
abbrev pub FollowsSome : SnapParts → PipeParts → Type 0
FollowsSome snap pipe = (cells : List (List ℕ)) × Follows snap pipe cells

-- It then follows the pipe as it is then, for the same cells.
abbrev pub KeepsFollowing : SnapParts → PipeParts → SnapParts → PipeParts → Type 0
KeepsFollowing snap pipe new after = (cells : List (List ℕ)) → Follows snap pipe cells → Follows new after cells

abbrev pub snap_of : List (List ℕ) → List (List ℕ) → ℕ → ℕ → SnapParts
snap_of copies stages copied old = record { copies = copies; stages = stages; copied = copied; old = old }
