-- Properties of every program of a text.
use Rattle.std.specs.Prelude.{ℕ, ◌<◌, ◌^◌, List, All, Ok}
use Rattle.lucid_core.specs.Parts.{CoreParts}
use Rattle.lucid_core.specs.Valid.{IsValid}
use Rattle.lucid_effects_spec.specs.Laws.{TouchesRise}
use Rattle.lucid_effects_spec.specs.Order.{IsAccepted}
use Rattle.lucid_top_program.specs.Program.{IsProgram}

-- It is valid and accepted, its events have 32 bits, and every event calls arrays in their declared order, each at most once.
pub record IsSafe (core : CoreParts) : Type 0 where
  pub valid : IsValid core
  pub accepted : IsAccepted core
  pub events : All (λ h. h.event < 2 ^ 32) core.handlers
  pub rises : TouchesRise core

abbrev pub TextsAreSafe : Type 0
TextsAreSafe = (text : List ℕ) (core : CoreParts) → IsProgram text (Ok core) → IsSafe core
