-- The log of a drive: one pipeline, moved by the steps of a scenario. Handlers run whole; of packets only their places are counted.
use Rattle.std.specs.Prelude.{ℕ, ◌+◌, ◌-◌, ◌%◌, List, [], ◌∷◌, ◌++◌, Option, None, Some, Bool, not, ◌&&◌, if◌then◌else◌, codes, decimal, length, map, nat_eq, nat_le, nat_lt, replicate, slice_get, slice_index, slice_set}
use Rattle.std.specs.Option.{option_map_or}
use Rattle.lucid_base.specs.Cells.{cell_at}
use Rattle.lucid_base.specs.declared.array.ArrayDef.{ArrayDef}
use Rattle.lucid_conf.specs.declared.scene.Scene.{Scene}
use Rattle.lucid_conf.specs.declared.scene.Step.{Step}
use Rattle.lucid_conf.specs.declared.scene.Step.TheVariants.{Enter, Go, Look}
use Rattle.lucid_core.specs.Parts.{CoreParts}
use Rattle.lucid_core.specs.Step.{Entry, after, outs}
use Rattle.lucid_log.specs.Block.{block_text}
use Rattle.lucid_log.specs.Cells.{cells_text}
use Rattle.lucid_log.specs.Pieces.{pieces}
use Rattle.lucid_pipe_laws.specs.Places.{came}
use Rattle.lucid_tables.specs.Placed.{stage_of}
use Rattle.lucid_tables.specs.declared.stage.StageCode.{StageCode}

-- The inputs of a drive: a program, the stages of its pipeline, of which only the positions of the arrays matter, and a scenario.
pub record Drive : Type 0 where
  pub parts : CoreParts
  pub stages : List StageCode
  pub scene : Scene

-- How many events entered, and how many packets passed each stage.
pub record Progress : Type 0 where
  pub entered : ℕ
  pub passed : List ℕ

abbrev pub begun : Drive → Progress
begun d = record { entered = 0; passed = replicate (length d.stages) 0 }

-- A packet is in front of stage k exactly if one more came than passed.
abbrev pub is_taken : Progress → ℕ → Bool
is_taken p k = nat_lt k (length p.passed) && nat_lt (slice_index p.passed k) (came p.entered p.passed k)

-- The events of the file, as they enter.
abbrev pub entries : Scene → List Entry
entries scene = map (λ e. record { now = e.at; me = e.switch; event = e.event }) scene.events

-- The block of event j.
abbrev pub block_of : Drive → ℕ → List ℕ
block_of d j = option_map_or (λ (e : Entry). block_text d.parts e.now e.me e.event (outs d.parts (entries d.scene) j) 0) (slice_get (entries d.scene) j) []

abbrev pub line : List ℕ → ℕ → List ℕ
line word n = word ++ decimal n ++ codes "\n"

-- The outcome of a step: its text, the block in it if a packet left, the progress after it, and the stage that a packet passed by it.
pub record Done : Type 0 where
  pub text : List ℕ
  pub block : List ℕ
  pub progress : Progress
  pub stage : Option ℕ

abbrev pub stays : List ℕ → Progress → Done
stays text p = record { text = text; block = []; progress = p; stage = None }

abbrev pub enters : Drive → Progress → Done
enters d p =
    if nat_le (length d.scene.events) p.entered then stays (codes "none\n") p
    else if is_taken p 0 then stays (codes "busy\n") p
    else record { text = line (codes "enter ") p.entered; block = []; progress = record { entered = p.entered + 1; passed = p.passed }; stage = None }

-- The text of a move of the packet in front of stage k after its line: its block, if it leaves.
abbrev pub left_text : Drive → Progress → ℕ → List ℕ
left_text d p k = if nat_eq (k + 1) (length p.passed) then block_of d (slice_index p.passed k) else []

abbrev pub moved : Progress → ℕ → Progress
moved p k = record { entered = p.entered; passed = slice_set p.passed k (slice_index p.passed k + 1) }

abbrev pub goes : Drive → Progress → ℕ → Done
goes d p k =
    if not (is_taken p k) then stays (line (codes "empty ") k) p
    else if is_taken p (k + 1) then stays (line (codes "ahead ") k) p
    else record { text = line (codes "go ") k ++ left_text d p k; block = left_text d p k; progress = moved p k; stage = Some k }

-- An array in stage k has the value after as many events as passed the stage; one that is in no stage holds 0.
abbrev pub value_of : Drive → Progress → ℕ → ℕ → ℕ
value_of d p array cell = option_map_or (λ k. cell_at (after d.parts (entries d.scene) (slice_index p.passed k)) array cell) (stage_of d.stages array) 0

abbrev pub look_text : Drive → Progress → ℕ → ℕ → List ℕ
look_text d p array cell =
    option_map_or (λ (a : ArrayDef). codes "look " ++ a.name ++ codes "[" ++ decimal (cell % a.size) ++ codes "] = " ++ decimal (value_of d p array cell) ++ codes "\n") (slice_get d.parts.arrays array) []

abbrev pub does : Drive → Progress → Step → Done
does d p Enter = enters d p
does d p (Go k) = goes d p k
does d p (Look array cell) = stays (look_text d p array cell) p

-- The progress after the first steps, and the text of each of them.
abbrev pub progress_from : Drive → Progress → List Step → Progress
progress_from d p [] = p
progress_from d p (s ∷ steps) = progress_from d (does d p s).progress steps

abbrev pub text_from : Drive → Progress → List Step → List ℕ
text_from d p [] = []
text_from d p (s ∷ steps) = (does d p s).text ++ text_from d (does d p s).progress steps

-- How many left.
abbrev pub left : Progress → ℕ
left p = slice_index p.passed (length p.passed - 1)

-- How many events entered, and how many of the file are left.
abbrev pub ending_text : ℕ → ℕ → List ℕ
ending_text entered left = codes "entered " ++ decimal entered ++ codes " left " ++ decimal left ++ codes "\n"

-- The cells that aren't 0 after this many events ran whole, and the ending.
abbrev pub last_text : Drive → ℕ → List ℕ
last_text d n = cells_text 0 d.parts.arrays (after d.parts (entries d.scene) n) ++ ending_text n (length d.scene.events - n)

-- The blocks of those in flight, the oldest first.
abbrev pub flight_text : Drive → Progress → List ℕ
flight_text d p = pieces (block_of d) (left p) (p.entered - left p)

-- They, followed by the last text.
abbrev pub end_text : Drive → Progress → List ℕ
end_text d p = flight_text d p ++ last_text d p.entered

-- The progress after all steps.
abbrev pub after_steps : Drive → Progress
after_steps d = progress_from d (begun d) d.scene.steps

abbrev pub drive_log : Drive → List ℕ
drive_log d = text_from d (begun d) d.scene.steps ++ end_text d (after_steps d)
