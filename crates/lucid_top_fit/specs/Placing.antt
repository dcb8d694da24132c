-- A placement that comes from a file, for code whose counts keep their limits: its places, and the placed code that they make.
use Rattle.std.specs.Prelude.{◌≡◌, ℕ, None, Option, Some, Result, Ok, Err}
use Rattle.lucid_audit.specs.declared.error.AuditError.TheVariants as cause
use Rattle.lucid_audit.specs.declared.plan.Plan.{Plan}
use Rattle.lucid_audit.specs.declared.plan.PlanError.TheVariants as error
use Rattle.lucid_audit.specs.declared.plan.PlanKey.TheVariants as key
use Rattle.lucid_audit.specs.Audit.{pairs_of}
use Rattle.lucid_audit.specs.Audit as audit
use Rattle.lucid_audit.specs.PlanFile.{Answers, Refuses, plan_read}
use Rattle.lucid_audit.specs.Refused as refused
use Rattle.lucid_code.specs.Parts as code
use Rattle.lucid_conf.specs.declared.limits.Limits.{Limits}
use Rattle.lucid_core.specs.Parts.{CoreParts}
use Rattle.lucid_layout.specs.declared.error.FitError.TheVariants as layout
use Rattle.lucid_stages.specs.Counts.{CountsFit}
use Rattle.lucid_layout.specs.Layout.{IsRefused}
use Rattle.lucid_tables.specs.Placed.{PlacedParts}
use Rattle.lucid_top_words.specs.declared.no_fit.NoFit.TheVariants as fit
use Rattle.lucid_top_words.specs.declared.placement.BadPlacement.TheVariants as placement
use Rattle.lucid_top_words.specs.declared.refusal.Refusal.{Refusal}
use Rattle.lucid_top_words.specs.declared.refusal.Refusal.TheVariants as refusal
use Rattle.lucid_top_words.specs.Words.{Bytes}
use Rattle.lucid_top_fit.specs.Causes.{array_name}

-- ---- counts

-- code whose counts keep their limits, or the first count that doesn't; whether its nodes have places isn't asked
abbrev pub IsCounted : CoreParts → Limits → code.CodeParts → Result code.CodeParts Refusal → Type 0
IsCounted core limits from (Ok counted) = CountsFit from limits × (counted ≡ from)
IsCounted core limits from (Err (refusal.NoFit (fit.Ops n))) = IsRefused from limits (layout.Ops n)
IsCounted core limits from (Err (refusal.NoFit (fit.Bits n))) = IsRefused from limits (layout.Fields n)
IsCounted core limits from (Err (refusal.NoFit (fit.Arms name))) =
    (array : ℕ) × IsRefused from limits (layout.Arms array) × (name ≡ array_name core array)
IsCounted core limits from (Err r) = ⊥

-- ---- places

-- the places of the text for this many nodes, or the first fault of the file, of a list the first bad item
abbrev pub IsPlan : Bytes → ℕ → Result Plan Refusal → Type 0
IsPlan text nodes (Ok plan) = Answers (Ok plan) (plan_read nodes) text
IsPlan text nodes (Err (refusal.Placement placement.NotJson)) = Refuses error.NotJson (plan_read nodes) text
IsPlan text nodes (Err (refusal.Placement placement.File)) =
    (place : Option ℕ) × Refuses (error.BadField key.File place) (plan_read nodes) text
IsPlan text nodes (Err (refusal.Placement placement.Other)) =
    (place : Option ℕ) × Refuses (error.BadField key.Other place) (plan_read nodes) text
IsPlan text nodes (Err (refusal.Placement placement.Nodes)) = Refuses (error.BadField key.Nodes None) (plan_read nodes) text
IsPlan text nodes (Err (refusal.Placement (placement.Item i))) = Refuses (error.BadField key.Nodes (Some i)) (plan_read nodes) text
IsPlan text nodes (Err r) = ⊥

-- the placed code of these places; or the first rule that they break
abbrev pub IsAudited : Limits → code.CodeParts → Plan → Result PlacedParts Refusal → Type 0
IsAudited limits from plan (Ok placed) = audit.IsAudited from limits (pairs_of plan.pairs) placed
IsAudited limits from plan (Err (refusal.Placement (placement.Range i))) =
    refused.IsRefused from limits (pairs_of plan.pairs) (cause.Range i)
IsAudited limits from plan (Err (refusal.Placement (placement.Early i))) =
    refused.IsRefused from limits (pairs_of plan.pairs) (cause.Early i)
IsAudited limits from plan (Err (refusal.Placement (placement.Rows stage table))) =
    refused.IsRefused from limits (pairs_of plan.pairs) (cause.Rows stage table)
IsAudited limits from plan (Err (refusal.Placement (placement.Arrays stage))) =
    refused.IsRefused from limits (pairs_of plan.pairs) (cause.Arrays stage)
IsAudited limits from plan (Err r) = ⊥
