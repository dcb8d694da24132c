-- The premises of the headline are what the commands accept: each is the definition that the commands use, at a result that is no refusal.
use Rattle.std.specs.Prelude.{◌↔◌, List, Ok, length, map}
use Rattle.lucid_audit.specs.declared.plan.Plan.{Plan}
use Rattle.lucid_code.specs.Nodes.{nodes}
use Rattle.lucid_conf.specs.declared.limits.Limits.{Limits}
use Rattle.lucid_conf.specs.declared.scene.Scene.{Scene}
use Rattle.lucid_conf.specs.Tables.{limits_read, scene_read}
use Rattle.lucid_core.specs.Parts.{CoreParts}
use Rattle.lucid_tables.specs.Placed.{PlacedParts}
use Rattle.lucid_top.specs.Premises.{HasCore, HasValue}
use Rattle.lucid_top.specs.Headline.{Accepted, AuditAccepts, FirstFitPlaces, Three}
use Rattle.lucid_top_fit.specs.Fit.{Composed, Fit, IsComposed, IsFitted}
use Rattle.lucid_top_fit.specs.Passes.{PassView}
use Rattle.lucid_top_fit.specs.Placing.{IsAudited, IsCounted, IsPlan}
use Rattle.lucid_top_program.specs.Program.{IsProgram}
use Rattle.lucid_top_program.specs.Settings.{IsLimits, IsScenario}
use Rattle.lucid_top_words.specs.Words.{Bytes}

abbrev pub ProgramsAreExact : Type 0
ProgramsAreExact = (text : Bytes) (core : CoreParts) → HasCore text core ↔ IsProgram text (Ok core)

pub record SettingsAreExact : Type 0 where
  pub limits : (text : Bytes) (limits : Limits) → HasValue limits_read text limits ↔ IsLimits text (Ok limits)
  pub scenarios : (core : CoreParts) (text : Bytes) (scene : Scene) → HasValue (scene_read core) text scene ↔ IsScenario core text (Ok scene)

-- for any passes
abbrev pub FitsAreExact : Type 0
FitsAreExact = (passes : List PassView) (texts : Three) (a : Accepted texts) →
    FirstFitPlaces (map (λ p. p.gives.makes) passes) a ↔ ((fit : Fit) × IsFitted a.core a.limits passes (Ok fit))

-- the code that the passes make, with counts within the limits, a placement file for its nodes, and places that the audit accepts
pub record IsAccepted (core : CoreParts) (limits : Limits) (passes : List PassView) (placement : Bytes) : Type 0 where
  pub made : Composed
  pub composed : IsComposed core passes (Ok made)
  pub counted : IsCounted core limits made.code (Ok made.code)
  pub plan : Plan
  pub planned : IsPlan placement (length (nodes made.code.ops)) (Ok plan)
  pub placed : PlacedParts
  pub audited : IsAudited limits made.code plan (Ok placed)

abbrev pub AuditsAreExact : Type 0
AuditsAreExact = (passes : List PassView) (texts : Three) (a : Accepted texts) (placement : Bytes) →
    AuditAccepts (map (λ p. p.gives.makes) passes) a placement ↔ IsAccepted a.core a.limits passes placement
