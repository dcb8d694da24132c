-- From a program to its placed code, part by part: inlining and normal form, passes, first fit. Every command with a layout uses these
-- definitions.
use Rattle.std.specs.Prelude.{◌≡◌, ℕ, ◌<◌, ◌≤◌, List, [], Result, Ok, Err, length, map}
use Rattle.lucid_code.specs.Parts as code
use Rattle.lucid_conf.specs.declared.limits.Limits.{Limits}
use Rattle.lucid_core.specs.Parts.{CoreParts}
use Rattle.lucid_effects_spec.specs.Size.{flat_size}
use Rattle.lucid_inline.specs.Refusals.{largest}
use Rattle.lucid_inline_count.specs.Counts.{capped}
use Rattle.lucid_inline_spec.specs.Flat.{flat_of}
use Rattle.lucid_layout.specs.declared.error.FitError.TheVariants as cause
use Rattle.lucid_stages.specs.Counts.{most_ops}
use Rattle.lucid_layout.specs.Fit.{NoRoom}
use Rattle.lucid_layout.specs.Layout.{IsLayout, IsRefused}
use Rattle.lucid_stages.specs.NodeWorks.{works}
use Rattle.lucid_normal_spec.specs.Program.{translate}
use Rattle.lucid_pass.specs.Through.{gone, through}
use Rattle.lucid_tables.specs.Placed.{PlacedParts}
use Rattle.lucid_top_words.specs.declared.no_fit.NoFit.TheVariants as fit
use Rattle.lucid_top_words.specs.declared.refusal.Refusal.{Refusal}
use Rattle.lucid_top_words.specs.declared.refusal.Refusal.TheVariants as refusal
use Rattle.lucid_top_words.specs.Outcome.{FollowedBy}
use Rattle.lucid_top_fit.specs.declared.layout.Fitting.{Fitting}
use Rattle.lucid_top_fit.specs.declared.passes.Composition.{Composition}
use Rattle.lucid_top_fit.specs.Causes.{array_name}
use Rattle.lucid_top_fit.specs.Passes.{PassView}

-- the normal form of a program
abbrev pub normal_of : CoreParts → code.CodeParts
normal_of core = translate (flat_of core)

-- the number of its operations and the size of the flat form keep their bounds, so that it is built
pub record HasNormal (core : CoreParts) : Type 0 where
  pub ops : length (normal_of core).ops ≤ most_ops
  pub size : flat_size (flat_of core) ≤ largest

-- the code that passes are run on, where there is any
abbrev pub RunsOn : CoreParts → code.CodeParts → Type 0
RunsOn core from = HasNormal core × (from ≡ normal_of core)

-- ---- the composed code

-- the code that passes make of the normal form, and the number of operations that each removed
pub record Composed : Type 0 where
  pub code : code.CodeParts
  pub gone : List ℕ

abbrev pub composed : CoreParts → List PassView → Composed
composed core passes = let gives = map PassView.gives passes in
    record { code = through gives (normal_of core); gone = gone gives (normal_of core) }

-- the result of a call
abbrev pub made_view : Composition → Composed
made_view c = record { code = c.code; gone = c.gone.items }

-- the composed code; or the first of the two counts that exceeds its bound, printed as at most the last number of 64 bits
abbrev pub IsComposed : CoreParts → List PassView → Result Composed Refusal → Type 0
IsComposed core passes (Ok made) = HasNormal core × (made ≡ composed core passes)
IsComposed core passes (Err (refusal.NoFit (fit.Ops n))) = (most_ops < length (normal_of core).ops) × (n ≡ capped (length (normal_of core).ops))
IsComposed core passes (Err (refusal.NoFit (fit.Size n))) =
    (length (normal_of core).ops ≤ most_ops) × (largest < flat_size (flat_of core)) × (n ≡ capped (flat_size (flat_of core)))
IsComposed core passes (Err r) = ⊥

-- ---- the placed code

-- where first fit places the code within these limits, or the first cause why it doesn't
abbrev pub IsPlaced : CoreParts → Limits → code.CodeParts → Result PlacedParts Refusal → Type 0
IsPlaced core limits from (Ok placed) = IsLayout from limits placed
IsPlaced core limits from (Err (refusal.NoFit (fit.Ops n))) = IsRefused from limits (cause.Ops n)
IsPlaced core limits from (Err (refusal.NoFit (fit.Bits n))) = IsRefused from limits (cause.Fields n)
IsPlaced core limits from (Err (refusal.NoFit (fit.Arms name))) =
    (array : ℕ) × IsRefused from limits (cause.Arms array) × (name ≡ array_name core array)
IsPlaced core limits from (Err (refusal.NoFit (fit.Node i))) = IsRefused from limits (cause.Node i)
IsPlaced core limits from (Err r) = ⊥

-- where the code has no place for a node, none of the places that first fit tries has room for it
abbrev pub NoRoomIn : {X : Type 0} → Limits → code.CodeParts → Result X Refusal → Type 0
NoRoomIn limits from (Err (refusal.NoFit (fit.Node i))) = NoRoom from.ops limits [] (works from.ops) i
NoRoomIn limits from other = Unit {0}

-- ---- the whole

-- placed code, and how many operations went in each pass
pub record Fit : Type 0 where
  pub placed : PlacedParts
  pub gone : List ℕ

abbrev pub fit_of : List ℕ → PlacedParts → Fit
fit_of gone placed = record { placed = placed; gone = gone }

-- the result of a call
abbrev pub fit_view : Fitting → Fit
fit_view f = fit_of f.gone.items f.placed

abbrev pub IsFitted : CoreParts → Limits → List PassView → Result Fit Refusal → Type 0
IsFitted core limits passes o =
    FollowedBy (IsComposed core passes)
    (λ made. FollowedBy (IsPlaced core limits made.code) (λ placed p. p ≡ Ok (fit_of made.gone placed))) o
