-- The sights of a drive, by the cells that handlers that run whole leave.
use Rattle.std.specs.Prelude.{◌≡◌, ℕ, zero, suc, List, [], ◌∷◌, ◌++◌, Option, None, Some, if◌then◌else◌, length, replicate, slice_index, take}
use Rattle.std.specs.Option.{option_map_or}
use Rattle.lucid_base.specs.Cells.{row_of}
use Rattle.lucid_base.specs.declared.array.ArrayDef.{ArrayDef}
use Rattle.lucid_conf.specs.declared.scene.Step.{Step}
use Rattle.lucid_core.specs.Step.{after}
use Rattle.lucid_pipe.specs.Sights.{ShowsAll}
use Rattle.lucid_pipe.specs.declared.sight.Sight.{Sight}
use Rattle.lucid_tables.specs.Placed.{stage_of}
use Rattle.lucid_drive.specs.Drive.{Drive, Progress, begun, does, entries, is_taken}

-- The taken slots among these from k on, the last first.
abbrev pub places_from : Progress → ℕ → ℕ → List ℕ
places_from p k zero = []
places_from p k (suc count) = places_from p (suc k) count ++ (if is_taken p k then k ∷ [] else [])

-- The cells of an array in stage k are those after as many events as passed the stage; one that is in no stage holds 0.
abbrev pub row_at : Drive → Progress → ℕ → ArrayDef → List ℕ
row_at d p array a = option_map_or (λ k. row_of (after d.parts (entries d.scene) (slice_index p.passed k)) array) (stage_of d.stages array) (replicate a.size 0)

-- So the arrays from this number on.
abbrev pub rows_from : Drive → Progress → ℕ → List ArrayDef → List (List ℕ)
rows_from d p array [] = []
rows_from d p array (a ∷ arrays) = row_at d p array a ∷ rows_from d p (suc array) arrays

-- The pipe of a drive that is so far, as switch 0.
abbrev pub sight_at : Drive → Progress → Sight
sight_at d p = record { switch = 0; places = places_from p 0 (length p.passed); cells = rows_from d p 0 d.parts.arrays }

-- One sight after each step.
abbrev pub sights_from : Drive → Progress → List Step → List Sight
sights_from d p [] = []
sights_from d p (s ∷ steps) = sight_at d (does d p s).progress ∷ sights_from d (does d p s).progress steps

-- Those after the first steps, and after all.
abbrev pub sights_to : Drive → ℕ → List Sight
sights_to d count = sights_from d (begun d) (take count d.scene.steps)

abbrev pub sights : Drive → List Sight
sights d = sights_from d (begun d) d.scene.steps

-- The first of these sights were shown.
abbrev pub ShowsSome : Option (List Sight) → Option (List Sight) → List Sight → Type 0
ShowsSome old new sights = (n : ℕ) × ShowsAll old new (take n sights)
