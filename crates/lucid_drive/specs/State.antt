-- How far a drive is, by the numbers of its state.
use Rattle.std.specs.Prelude.{◌≡◌, ℕ, suc, ◌-◌, ◌<◌, ◌≤◌, ◌^◌, List, [], Option, None, Some, false, if◌then◌else◌, length, nat_lt, slice_get, take}
use Rattle.std.specs.Option.{option_map_or}
use Rattle.lucid_conf.specs.Kept.{IsScene}
use Rattle.lucid_conf.specs.declared.scene.Scene.{Scene}
use Rattle.lucid_core.specs.Parts.{CoreParts}
use Rattle.lucid_normal_spec.specs.Stands.{StandsFor}
use Rattle.lucid_pipe.specs.Pipe.{PipeParts, empty_pipe, packet_at}
use Rattle.lucid_tables.specs.Placed.{PlacedParts}
use Rattle.lucid_drive.specs.Drive.{Done, Drive, Progress, begun, does, progress_from, stays, text_from}
use Rattle.lucid_drive.specs.Flush.{flushed_by, flushes}
use Rattle.lucid_drive.specs.Standing.{IsAt, drive_of}
use Rattle.lucid_drive.specs.declared.state.DriveState.{DriveState}

-- The progress after the first `done` steps and then this many moves of the oldest packet.
abbrev pub progress_at : Drive → ℕ → ℕ → Progress
progress_at d done moves = flushed_by d (progress_from d (begun d) (take done d.scene.steps)) moves

-- The text of the first steps.
abbrev pub text_to : Drive → ℕ → List ℕ
text_to d count = text_from d (begun d) (take count d.scene.steps)

-- The outcome of the step of this number after those before it.
abbrev pub step_at : Drive → ℕ → Done
step_at d number = option_map_or (does d (progress_at d number 0)) (slice_get d.scene.steps number) (stays [] (progress_at d number 0))

-- The outcome of the next move of the oldest packet.
abbrev pub flush_at : Drive → ℕ → ℕ → Done
flush_at d done moves = flushes d (progress_at d done moves)

-- A count in 64 bits: it stops at the greatest number.
abbrev pub counted : ℕ → ℕ
counted n = if nat_lt n (2 ^ 64) then n else 2 ^ 64 - 1

-- How many moves there are then.
abbrev pub moves_after : Option ℕ → ℕ → ℕ
moves_after None moves = moves
moves_after (Some k) moves = suc moves

-- The pipe is as the done steps and this many moves of the oldest packet make it. The oldest moves only after all steps, and no call
-- failed.
pub record StandsAfter (parts : CoreParts) (scene : Scene) (s : DriveState) (moves : ℕ) (pipe : PipeParts) : Type 0 where
  pub kept : IsScene parts scene
  pub sound : s.failed ≡ false
  pub done : s.done ≤ length scene.steps
  pub early : s.done < length scene.steps → moves ≡ 0
  pub flushed : s.flushed ≡ counted moves
  pub entered : s.entered ≡ (progress_at (drive_of parts pipe scene) s.done moves).entered
  pub is : IsAt parts scene (progress_at (drive_of parts pipe scene) s.done moves) pipe

-- The pipe is at the state, for some number of moves.
pub record StandsAt (parts : CoreParts) (scene : Scene) (s : DriveState) (pipe : PipeParts) : Type 0 where
  pub moves : ℕ
  pub after : StandsAfter parts scene s moves pipe

-- No packet is in the pipe.
abbrev pub IsEmpty : PipeParts → Type 0
IsEmpty pipe = (k : ℕ) → packet_at pipe k ≡ None

-- A pipe without packets in which all cells are 0 is at a new state, if its code represents the program and has its arrays.
abbrev pub NewStands : Type 0
NewStands =
    (parts : CoreParts) (scene : Scene) (placed : PlacedParts) → IsScene parts scene → StandsFor placed.code parts → placed.code.arrays ≡ parts.arrays →
    StandsAfter parts scene (record { done = 0; flushed = 0; entered = 0; failed = false }) 0 (empty_pipe placed)
