-- One packet, end to end: from a program that is accepted and placed to the effect of its handler that runs whole.
use Rattle.std.specs.Prelude.{◌≡◌, ℕ, List, Ok, length}
use Rattle.lucid_audit.specs.declared.plan.Plan.{Plan}
use Rattle.lucid_base.specs.declared.event.Event.{Event}
use Rattle.lucid_code.specs.Nodes.{nodes}
use Rattle.lucid_conf.specs.declared.limits.Limits.{Limits}
use Rattle.lucid_conf.specs.Kept.{AreLimits}
use Rattle.lucid_core.specs.Parts.{CoreParts}
use Rattle.lucid_core.specs.Step.{step}
use Rattle.lucid_normal_spec.specs.Stands.{Happens}
use Rattle.lucid_tables.specs.Placed.{PlacedParts}
use Rattle.lucid_tables.specs.Stages.{pass}
use Rattle.lucid_top_fit.specs.Fit.{Composed, Fit, IsComposed, IsFitted}
use Rattle.lucid_top_fit.specs.Passes.{PassView}
use Rattle.lucid_top_fit.specs.Placing.{IsAudited}

-- A packet that traverses all stages leaves the cells and sends the outs of the handler: from all cells, at every tick, at every switch
-- and with every event that fits the program.
pub record RunsWhole (placed : PlacedParts) (core : CoreParts) : Type 0 where
  pub cells : (cells : List (List ℕ)) (now me : ℕ) (event : Event) → Happens core me event →
      (pass placed.code placed.stages cells now me event).cells ≡ (step core cells now me event).cells
  pub outs : (cells : List (List ℕ)) (now me : ℕ) (event : Event) → Happens core me event →
      (pass placed.code placed.stages cells now me event).outs ≡ (step core cells now me event).outs

-- For any passes, if first fit places the code that they make of the program, `RunsWhole` holds.
abbrev pub FitsRunWhole : CoreParts → Type 0
FitsRunWhole core = (limits : Limits) → AreLimits limits → (passes : List PassView) (fit : Fit) → IsFitted core limits passes (Ok fit) → RunsWhole fit.placed core

-- For any passes, if the audit accepts a place for each node of the code that they make of the program, `RunsWhole` holds.
abbrev pub AuditsRunWhole : CoreParts → Type 0
AuditsRunWhole core =
    (limits : Limits) → AreLimits limits → (passes : List PassView) (made : Composed) → IsComposed core passes (Ok made) →
    (plan : Plan) → length plan.pairs ≡ length (nodes made.code.ops) → (placed : PlacedParts) → IsAudited limits made.code plan (Ok placed) → RunsWhole placed core
