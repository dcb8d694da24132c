-- How packets that are in flight after the last step finish: the oldest moves on, a stage at a time.
use Rattle.std.specs.Prelude.{ℕ, zero, suc, [], Option, None, Some, Bool, if◌then◌else◌, length}
use Rattle.lucid_drive.specs.Drive.{Done, Drive, Progress, is_taken, left_text, moved, stays}

-- The last number below n that passes a test.
abbrev pub last_below : (ℕ → Bool) → ℕ → Option ℕ
last_below test zero = None
last_below test (suc n) = if test n then Some n else last_below test n

-- The position of the oldest packet.
abbrev pub oldest : Progress → Option ℕ
oldest p = last_below (is_taken p) (length p.passed)

-- The packet in this slot passes its stage. Of that the block is written, where it leaves.
abbrev pub flushes_at : Drive → Progress → Option ℕ → Done
flushes_at d p None = stays [] p
flushes_at d p (Some k) = record { text = left_text d p k; block = left_text d p k; progress = moved p k; stage = Some k }

-- So does the oldest, if there is one.
abbrev pub flushes : Drive → Progress → Done
flushes d p = flushes_at d p (oldest p)

-- The progress after this many moves of the oldest packet.
abbrev pub flushed_by : Drive → Progress → ℕ → Progress
flushed_by d p zero = p
flushed_by d p (suc n) = (flushes d (flushed_by d p n)).progress
