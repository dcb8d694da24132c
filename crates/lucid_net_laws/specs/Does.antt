-- A pass through the stages of placed code has the effect of the program's step.
use Rattle.std.specs.Prelude.{◌≡◌, ℕ, ◌<◌, ◌≤◌, ◌^◌, List, length}
use Rattle.lucid_base.specs.Cells.{zero_cells}
use Rattle.lucid_base.specs.declared.event.Event.{Event}
use Rattle.lucid_code.specs.Inputs.{IsInput}
use Rattle.lucid_conf.specs.declared.limits.Limits.{Limits}
use Rattle.lucid_conf.specs.declared.scene.Scene.{Scene}
use Rattle.lucid_core.specs.Parts.{CoreParts}
use Rattle.lucid_core.specs.Step.{step}
use Rattle.lucid_net_laws.specs.Fitting.{fits}
use Rattle.lucid_net_laws.specs.Stages.{DoAs}
use Rattle.lucid_net_spec.specs.Log as network
use Rattle.lucid_normal_spec.specs.Stands.{StandsFor}
use Rattle.lucid_pipe.specs.Packets.{entering}
use Rattle.lucid_pipe.specs.Rows.{AreOwned}
use Rattle.lucid_pipe_laws.specs.Rows.{whole}
use Rattle.lucid_tables.specs.Placed.{PlacedParts}
use Rattle.lucid_net_laws.specs.Rows.{Cells, step_of, first_cells, cells_of}
use Rattle.lucid_net_laws.specs.PipeStages.{run_of_packet, stages_of}

-- The cells of stages are those of cells that fit the program.
abbrev pub IsGood : PlacedParts → CoreParts → List Cells → Type 0
IsGood placed parts = AreOwned placed parts.arrays

-- A pass through the stages has the effect of the program's step.
pub record StepsAs (parts : CoreParts) (placed : PlacedParts) : Type 0 where
  pub start : cells_of placed (first_cells placed) ≡ zero_cells parts.arrays
  pub good : IsGood placed parts (first_cells placed)
  pub pass : (tick switch : ℕ) (cs : List Cells) (event : Event) → tick < 2 ^ 64 → switch < 2 ^ 32 → IsGood placed parts cs → fits parts event →
      (let e = whole (step_of placed) cs (entering placed.code event tick switch) in let d = step parts (cells_of placed cs) tick switch event in
      (cells_of placed e.0 ≡ d.cells) × (run_of_packet e.1 ≡ record { tick = tick; switch = switch; event = event; outs = d.outs }) × IsGood placed parts e.0)

abbrev pub PassStepsAs : CoreParts → PlacedParts → Type 0
PassStepsAs parts placed = StandsFor placed.code parts → placed.code.arrays ≡ parts.arrays → length parts.events ≤ 2 ^ 32 → StepsAs parts placed

-- So it is at the ticks and switches of every network.
abbrev pub PassDoesAs : CoreParts → PlacedParts → Type 0
PassDoesAs parts placed = StandsFor placed.code parts → placed.code.arrays ≡ parts.arrays → length parts.events ≤ 2 ^ 32 →
    (scene : Scene) (limits : Limits) → scene.stop ≤ 2 ^ 64 → scene.switches ≤ 2 ^ 32 → DoAs (network.whole parts scene limits) (stages_of placed) (IsGood placed parts) (fits parts)

-- And each event that fits is an input.
abbrev pub TakesAll : CoreParts → PlacedParts → Type 0
TakesAll parts placed = StandsFor placed.code parts → length parts.events ≤ 2 ^ 32 → (switch : ℕ) (event : Event) → switch < 2 ^ 32 → fits parts event → IsInput placed.code switch event
