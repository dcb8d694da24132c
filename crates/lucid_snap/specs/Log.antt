-- The log of a drive in which a snapshot is taken: handlers run whole, and the snapshot is their cells after as many events as had entered.
use Rattle.std.specs.Prelude.{ℕ, List, ◌++◌, codes, drop}
use Rattle.lucid_core.specs.Step.{after}
use Rattle.lucid_log.specs.Cells.{cells_text}
use Rattle.lucid_drive.specs.Drive.{Drive, after_steps, drive_log, end_text, entries, line, text_from}
use Rattle.lucid_drive.specs.State.{progress_at}

-- How many events entered by the first steps, or by all where there are fewer.
abbrev pub entered_by : Drive → ℕ → ℕ
entered_by d steps = (progress_at d steps 0).entered

-- The number of events that had entered, and the cells that aren't 0 after these ran whole.
abbrev pub snap_text : Drive → ℕ → List ℕ
snap_text d n = line (codes "snap after ") n ++ cells_text 0 d.parts.arrays (after d.parts (entries d.scene) n)

-- The drive log, as it is without a snapshot, and then the snapshot, which is taken after this many steps.
abbrev pub snap_log : Drive → ℕ → List ℕ
snap_log d steps = drive_log d ++ snap_text d (entered_by d steps)

-- The text of a drive after its first steps.
abbrev pub log_after : Drive → ℕ → List ℕ
log_after d steps = text_from d (progress_at d steps 0) (drop steps d.scene.steps) ++ end_text d (after_steps d)
