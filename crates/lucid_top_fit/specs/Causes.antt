-- The refusal for each error.
use Rattle.std.specs.Prelude.{ℕ, [], Option, None, Some, option_map, slice_get}
use Rattle.std.specs.Option.{unwrap_or}
use Rattle.lucid_audit.specs.declared.error.AuditError.{AuditError}
use Rattle.lucid_audit.specs.declared.error.AuditError.TheVariants as audit
use Rattle.lucid_audit.specs.declared.plan.PlanError.{PlanError}
use Rattle.lucid_audit.specs.declared.plan.PlanError.TheVariants as plan
use Rattle.lucid_audit.specs.declared.plan.PlanKey.{PlanKey}
use Rattle.lucid_audit.specs.declared.plan.PlanKey.TheVariants as key
use Rattle.lucid_core.specs.Parts.{CoreParts}
use Rattle.lucid_inline.specs.declared.error.InlineError.{InlineError}
use Rattle.lucid_inline.specs.declared.error.InlineError.TheVariants as inline
use Rattle.lucid_stages.specs.declared.count_error.CountError.{CountError}
use Rattle.lucid_layout.specs.declared.error.FitError.{FitError}
use Rattle.lucid_layout.specs.Layout.{fit_error}
use Rattle.lucid_layout.specs.declared.error.FitError.TheVariants as layout
use Rattle.lucid_top_words.specs.declared.no_fit.NoFit.TheVariants as fit
use Rattle.lucid_top_words.specs.declared.placement.BadPlacement.TheVariants as placement
use Rattle.lucid_top_words.specs.declared.refusal.Refusal.{Refusal}
use Rattle.lucid_top_words.specs.declared.refusal.Refusal.TheVariants as refusal
use Rattle.lucid_top_words.specs.Words.{Bytes}

-- the name of an array of the program
abbrev pub array_name : CoreParts → ℕ → Bytes
array_name core array = unwrap_or (option_map (λ a. a.name) (slice_get core.arrays array)) []

-- why a program has no normal form here
abbrev pub of_inline : InlineError → Refusal
of_inline (inline.TooMany handler count) = refusal.NoFit (fit.Ops count)
of_inline (inline.TooLarge handler size) = refusal.NoFit (fit.Size size)
of_inline inline.Memory = refusal.Memory

-- why first fit doesn't place its code
abbrev pub of_fit : CoreParts → FitError → Refusal
of_fit core (layout.Ops n) = refusal.NoFit (fit.Ops n)
of_fit core (layout.Fields n) = refusal.NoFit (fit.Bits n)
of_fit core (layout.Arms array) = refusal.NoFit (fit.Arms (array_name core array))
of_fit core (layout.Node i) = refusal.NoFit (fit.Node i)
of_fit core layout.Memory = refusal.Memory

-- why the counts of its code don't keep their limits
abbrev pub of_count : CoreParts → CountError → Refusal
of_count core e = of_fit core (fit_error e)

-- why a placement file gives no places
abbrev pub of_key : PlanKey → Option ℕ → Refusal
of_key key.File place = refusal.Placement placement.File
of_key key.Other place = refusal.Placement placement.Other
of_key key.Nodes None = refusal.Placement placement.Nodes
of_key key.Nodes (Some i) = refusal.Placement (placement.Item i)

abbrev pub of_plan : PlanError → Refusal
of_plan plan.NotJson = refusal.Placement placement.NotJson
of_plan (plan.BadField k place) = of_key k place
of_plan plan.Memory = refusal.Memory

-- why places are refused for code whose counts keep their limits; so the causes of counts don't come
abbrev pub of_audit : AuditError → Refusal
of_audit (audit.Range i) = refusal.Placement (placement.Range i)
of_audit (audit.Early i) = refusal.Placement (placement.Early i)
of_audit (audit.Rows stage table) = refusal.Placement (placement.Rows stage table)
of_audit (audit.Arrays stage) = refusal.Placement (placement.Arrays stage)
of_audit e = refusal.Memory
