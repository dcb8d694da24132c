-- The sights of a network, by the network whose handlers run whole.
use Rattle.std.specs.Prelude.{ℕ, zero, suc, ◌+◌, ◌-◌, ◌≤◌, List, [], ◌∷◌, ◌++◌, Option, None, Some, Result, Ok, Err, Bool, ◌&&◌, if◌then◌else◌, is_some, nat_lt, replicate, slice_index_or}
use Rattle.std.specs.Option.{option_map_or}
use Rattle.lucid_base.specs.Cells.{row_of}
use Rattle.lucid_base.specs.declared.array.ArrayDef.{ArrayDef}
use Rattle.lucid_net_laws.specs.Flying.{one_if}
use Rattle.lucid_net_laws.specs.Runs.{entering}
use Rattle.lucid_net_spec.specs.Log.{ticks}
use Rattle.lucid_net_spec.specs.Ways.{Network, Run}
use Rattle.lucid_pipe.specs.Pipe.{PipeParts}
use Rattle.lucid_pipe.specs.Sights.{ShowsAll, sight_of}
use Rattle.lucid_pipe.specs.declared.sight.Sight.{Sight}
use Rattle.lucid_tables.specs.Placed.{PlacedParts, stage_of}
use Rattle.lucid_tables.specs.declared.stage.StageCode.{StageCode}
use Rattle.lucid_net.specs.declared.error.NetError.{NetError}
use Rattle.lucid_net.specs.declared.machines.Machines.TheVariants as machines
use Rattle.lucid_net.specs.declared.machines.Machines.{Machines}

-- Place k is taken after `at` ticks exactly if an event entered the switch k + 1 ticks before.
abbrev pub is_taken : Network → ℕ → ℕ → ℕ → Bool
is_taken net at switch k = nat_lt k at && is_some (entering net switch (at - suc k))

-- Of this many places from k on those that are taken, the last first.
abbrev pub places_from : Network → ℕ → ℕ → ℕ → ℕ → List ℕ
places_from net at switch k zero = []
places_from net at switch k (suc count) = places_from net at switch (suc k) count ++ (if is_taken net at switch k then k ∷ [] else [])

-- The cells of the switch k + 1 ticks before.
abbrev pub cells_before : Network → ℕ → ℕ → ℕ → List (List ℕ)
cells_before net at switch k = slice_index_or (ticks net (at - suc k)).cells switch []

-- An array in stage k has the cells of k + 1 ticks before; an array in no stage holds 0.
abbrev pub row_at : Network → List StageCode → ℕ → ℕ → ℕ → ArrayDef → List ℕ
row_at net stages at switch array a = option_map_or (λ k. row_of (cells_before net at switch k) array) (stage_of stages array) (replicate a.size 0)

-- So the arrays from this number on.
abbrev pub rows_from : Network → List StageCode → ℕ → ℕ → ℕ → List ArrayDef → List (List ℕ)
rows_from net stages at switch array [] = []
rows_from net stages at switch array (a ∷ arrays) = row_at net stages at switch array a ∷ rows_from net stages at switch (suc array) arrays

-- The pipe of a switch after `at` ticks.
abbrev pub sight_at : Network → PlacedParts → ℕ → ℕ → Sight
sight_at net placed at switch = record {
  switch = switch;
  places = places_from net at switch 0 net.limits.stages;
  cells = rows_from net placed.stages at switch 0 net.parts.arrays;
}

-- The sights of this many switches, from this number on; none if handlers run whole.
abbrev pub sights_from : Network → PlacedParts → ℕ → ℕ → ℕ → List Sight
sights_from net placed at switch zero = []
sights_from net placed at switch (suc count) = sight_at net placed at switch ∷ sights_from net placed at (switch + 1) count

abbrev pub sights : Network → Option PlacedParts → ℕ → List Sight
sights net None at = []
sights net (Some placed) at = sights_from net placed at 0 net.scene.switches

-- Those after each of the first ticks.
abbrev pub sights_to : Network → Option PlacedParts → ℕ → List Sight
sights_to net placed zero = []
sights_to net placed (suc tick) = sights_to net placed tick ++ sights net placed (suc tick)

-- All sights of a run, or those after the ticks before one that failed.
abbrev pub ShowsRun : Network → Option PlacedParts → Option (List Sight) → Option (List Sight) → Result (Unit {0}) NetError → Type 0
ShowsRun net placed old new (Ok u) = ShowsAll old new (sights_to net placed net.scene.stop)
ShowsRun net placed old new (Err e) = (tick : ℕ) × (tick ≤ net.scene.stop) × ShowsAll old new (sights_to net placed tick)

-- The sights of pipes as they are.
abbrev pub shown_from : ℕ → List PipeParts → List Sight
shown_from switch [] = []
shown_from switch (p ∷ pipes) = sight_of switch p ∷ shown_from (switch + 1) pipes

abbrev pub shown : Machines → List Sight
shown (machines.Whole switches) = []
shown (machines.Piped pipes) = shown_from 0 pipes.pipes.items

-- How many entered in the last ticks.
abbrev pub in_last : (ℕ → Option Run) → ℕ → ℕ → ℕ
in_last run at zero = 0
in_last run zero (suc count) = 0
in_last run (suc at) (suc count) = one_if (run at) + in_last run at count
