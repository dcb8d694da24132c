-- The outcome of a step of a drive, and its text.
use Rattle.std.specs.Prelude.{◌≡◌, ℕ, ◌+◌, ◌%◌, ◌<◌, length, List, [], ◌++◌, Option, None, Some, Result, Ok, Err, IsTrue, codes, decimal, slice_get}
use Rattle.std.specs.List.{All}
use Rattle.std.specs.Option.{option_map_or}
use Rattle.lucid_base.specs.declared.array.ArrayDef.{ArrayDef}
use Rattle.lucid_conf.specs.declared.scene.Scene.{Scene}
use Rattle.lucid_core.specs.Fits.{event_fits, out_fits}
use Rattle.lucid_core.specs.Parts.{CoreParts}
use Rattle.lucid_log.specs.Block.{block_text}
use Rattle.lucid_pipe.specs.Pipe.{PipeParts}
use Rattle.lucid_pipe.specs.declared.passed.Busy.{Busy as BusyParts}
use Rattle.lucid_pipe.specs.declared.passed.Passed.{Passed}
use Rattle.lucid_pipe.specs.declared.passed.Stuck.{Stuck}
use Rattle.lucid_pipe.specs.declared.passed.Stuck.TheVariants as stuck
use Rattle.lucid_drive.specs.Drive.{Done, line}
use Rattle.lucid_drive.specs.Standing.{IsAt}
use Rattle.lucid_drive.specs.declared.happened.Happened.{Happened}
use Rattle.lucid_drive.specs.declared.happened.Happened.TheVariants.{Nothing, Busy, Entered, Empty, Ahead, Went, Left, Looked}

abbrev pub happened_of : ℕ → Result (Option Passed) Stuck → Happened
happened_of k (Err stuck.Empty) = Empty k
happened_of k (Err stuck.Ahead) = Ahead k
happened_of k (Ok None) = Went k
happened_of k (Ok (Some passed)) = Left k passed

-- The result of a move if no packet can leave.
abbrev pub nothing_left : Result (Unit {0}) Stuck → Result (Option Passed) Stuck
nothing_left (Ok u) = Ok None
nothing_left (Err e) = Err e

abbrev pub happened_within : ℕ → Result (Unit {0}) Stuck → Happened
happened_within k r = happened_of k (nothing_left r)

abbrev pub entry_of : ℕ → Result (Unit {0}) BusyParts → Happened
entry_of number (Ok u) = Entered number
entry_of number (Err busy) = Busy

abbrev pub passed_text : CoreParts → Passed → List ℕ
passed_text parts p = block_text parts p.now p.me p.event p.outs 0

-- `look NAME[CELL] = VALUE`
abbrev pub looked_text : ArrayDef → ℕ → ℕ → List ℕ
looked_text a cell value = codes "look " ++ a.name ++ codes "[" ++ decimal (cell % a.size) ++ codes "] = " ++ decimal value ++ codes "\n"

abbrev pub happened_text : CoreParts → Happened → List ℕ
happened_text parts Nothing = codes "none\n"
happened_text parts Busy = codes "busy\n"
happened_text parts (Entered n) = line (codes "enter ") n
happened_text parts (Empty k) = line (codes "empty ") k
happened_text parts (Ahead k) = line (codes "ahead ") k
happened_text parts (Went k) = line (codes "go ") k
happened_text parts (Left k passed) = line (codes "go ") k ++ passed_text parts passed
happened_text parts (Looked array cell value) = option_map_or (λ (a : ArrayDef). looked_text a cell value) (slice_get parts.arrays array) []

-- The packet that left fits the program.
pub record PassedFits (parts : CoreParts) (p : Passed) : Type 0 where
  pub event : IsTrue (event_fits parts p.event)
  pub outs : All (λ out. IsTrue (out_fits parts out)) p.outs

abbrev pub FitsTo : CoreParts → Happened → Type 0
FitsTo parts (Left k passed) = PassedFits parts passed
FitsTo parts (Looked array cell value) = array < length parts.arrays
FitsTo parts _ = Unit {0}

-- The block in it, of the packet that left.
abbrev pub happened_block : CoreParts → Happened → List ℕ
happened_block parts (Left k passed) = passed_text parts passed
happened_block parts _ = []

-- The stage that a packet passed.
abbrev pub happened_at : Happened → Option ℕ
happened_at (Went k) = Some k
happened_at (Left k passed) = Some k
happened_at _ = None

-- The number of events that entered after this outcome, given the number before.
abbrev pub entered_after : ℕ → Happened → ℕ
entered_after n (Entered number) = n + 1
entered_after n _ = n

-- In a drive in which n events had entered, the step had just this outcome: the outcome is its text, and the pipe is at the state of the
-- drive after it.
pub record Did (parts : CoreParts) (scene : Scene) (n : ℕ) (done : Done) (h : Happened) (pipe : PipeParts) : Type 0 where
  pub text : happened_text parts h ≡ done.text
  pub block : happened_block parts h ≡ done.block
  pub stage : happened_at h ≡ done.stage
  pub entered : entered_after n h ≡ done.progress.entered
  pub fits : FitsTo parts h
  pub is : IsAt parts scene done.progress pipe
