-- A program has composed code, places by first fit and an audit of given places, or the first cause of a refusal.
use Rattle.std.proofs.Common.{◌≡◌, ◌≢◌, ℕ, zero, suc, ◌<◌, ◌≤◌, ◌⊎◌, inl, inr, Bool, true, false, List, [], ◌∷◌, Ok, Err, length, map, refl, sym, subst}
use Rattle.std.proofs.lemmas.Bool.{cases_lt}
use Rattle.std.specs.List.{AllByRecursion}
use Rattle.lucid_audit.proofs.Widths.{all_crowds, all_few, few_beyond}
use Rattle.lucid_audit.specs.Audit.{IsThere, arrays_at, pairs_of, rows_are_few, stages, tables_in}
use Rattle.lucid_audit.specs.declared.plan.Plan.{Plan}
use Rattle.lucid_audit.specs.Refused.{AreBehind, AreThere, FirstNot, FirstWide}
use Rattle.lucid_code.specs.Parts as code
use Rattle.lucid_conf.specs.declared.limits.Limits.{Limits}
use Rattle.lucid_core.specs.Parts.{CoreParts}
use Rattle.lucid_effects_spec.specs.Size.{flat_size}
use Rattle.lucid_inline.specs.Refusals.{largest}
use Rattle.lucid_inline_count.specs.Counts.{capped}
use Rattle.lucid_inline_spec.specs.Flat.{flat_of}
use Rattle.lucid_stages.specs.Counts.{CountsFit, most_ops}
use Rattle.lucid_layout.specs.declared.error.FitError.{FitError}
use Rattle.lucid_layout.specs.declared.error.FitError.TheVariants as cause
use Rattle.lucid_stages.specs.declared.stage.Seat.{Seat}
use Rattle.lucid_stages.specs.Marks.{Behind}
use Rattle.lucid_stages.specs.Stage.{seats}
use Rattle.lucid_layout.specs.Layout.{IsLayout, IsRefused}
use Rattle.lucid_stages.specs.Placing.{stage_code}
use Rattle.lucid_stages.specs.NodeWorks.{works}
use Rattle.lucid_layout_laws.proofs.LawsLemmas.{Decided, First, behind_decided, first, less_decided}
use Rattle.lucid_layout_laws.specs.Laws.{LayoutsAreThere}
use Rattle.lucid_tables.specs.Placed.{PlacedParts}
use Rattle.lucid_top_fit.specs.Causes.{array_name}
use Rattle.lucid_top_fit.specs.Fit.{IsComposed, IsFitted, IsPlaced, composed, fit_of, normal_of}
use Rattle.lucid_top_fit.specs.Passes.{PassView}
use Rattle.lucid_top_fit.specs.Placing.{IsAudited, IsCounted}
use Rattle.lucid_top_words.specs.declared.no_fit.NoFit.TheVariants as fit
use Rattle.lucid_top_words.specs.declared.placement.BadPlacement.TheVariants as placement
use Rattle.lucid_top_words.specs.declared.refusal.Refusal.TheVariants as refusal
use Rattle.lucid_top_words.specs.Outcome.{FollowedBy}
use Rattle.lucid_top_laws.proofs.ThereLemmas.{There, followed_there, given_there}

-- ---- composed code

module _ (core : CoreParts) (passes : List PassView) where
  composed_size : length (normal_of core).ops ≤ most_ops → (largest < flat_size (flat_of core)) ⊎ (flat_size (flat_of core) ≤ largest) → There (IsComposed core passes)
  composed_size few (inl large) = (Err (refusal.NoFit (fit.Size (capped (flat_size (flat_of core))))), (few, large, refl))
  composed_size few (inr small) = (Ok (composed core passes), (record { ops = few; size = small }, refl))

  composed_ops : (most_ops < length (normal_of core).ops) ⊎ (length (normal_of core).ops ≤ most_ops) → There (IsComposed core passes)
  composed_ops (inl many) = (Err (refusal.NoFit (fit.Ops (capped (length (normal_of core).ops)))), (many, refl))
  composed_ops (inr few) = composed_size few (cases_lt largest (flat_size (flat_of core)))

  pub composed_there : There (IsComposed core passes)
  composed_there = composed_ops (cases_lt most_ops (length (normal_of core).ops))

-- ---- places by first fit, and counts

module _ (layouts : LayoutsAreThere) (core : CoreParts) (limits : Limits) (from : code.CodeParts) where
  abbrev Laid : Type 0
  Laid = ((placed : PlacedParts) × IsLayout from limits placed) ⊎ ((e : FitError) × (e ≢ cause.Memory) × IsRefused from limits e)

  placed_by : Laid → There (IsPlaced core limits from)
  placed_by (inl laid) = (Ok laid.0, laid.1)
  placed_by (inr (cause.Ops n, not, is)) = (Err (refusal.NoFit (fit.Ops n)), is)
  placed_by (inr (cause.Fields n, not, is)) = (Err (refusal.NoFit (fit.Bits n)), is)
  placed_by (inr (cause.Arms array, not, is)) = (Err (refusal.NoFit (fit.Arms (array_name core array))), (array, is, refl))
  placed_by (inr (cause.Node i, not, is)) = (Err (refusal.NoFit (fit.Node i)), is)
  placed_by (inr (cause.Memory, not, is)) = absurd (not refl)

  pub placed_there : There (IsPlaced core limits from)
  placed_there = placed_by (layouts from limits)

  counted_by : Laid → There (IsCounted core limits from)
  counted_by (inl laid) = (Ok from, (laid.1.counts, refl))
  counted_by (inr (cause.Ops n, not, is)) = (Err (refusal.NoFit (fit.Ops n)), is)
  counted_by (inr (cause.Fields n, not, is)) = (Err (refusal.NoFit (fit.Bits n)), is)
  counted_by (inr (cause.Arms array, not, is)) = (Err (refusal.NoFit (fit.Arms (array_name core array))), (array, is, refl))
  counted_by (inr (cause.Node i, not, is)) = (Ok from, (is.0, refl))
  counted_by (inr (cause.Memory, not, is)) = absurd (not refl)

  pub counted_there : There (IsCounted core limits from)
  counted_there = counted_by (layouts from limits)

pub fitted_there : LayoutsAreThere → (core : CoreParts) (limits : Limits) (passes : List PassView) → There (IsFitted core limits passes)
fitted_there layouts core limits passes =
    followed_there (IsComposed core passes) (λ made. FollowedBy (IsPlaced core limits made.code) (λ placed p. p ≡ Ok (fit_of made.gone placed)))
    (composed_there core passes)
    (λ made is. followed_there (IsPlaced core limits made.code) (λ placed p. p ≡ Ok (fit_of made.gone placed)) (placed_there layouts core limits made.code)
    (λ placed has. given_there (Ok (fit_of made.gone placed))))

-- ---- given places

-- Each item has the property, or one is the first that does not.
first_not : {A : Type 0} (P : A → Type 0) → ((x : A) → Decided (P x)) → (xs : List A) → AllByRecursion P xs ⊎ ((i : ℕ) × FirstNot P xs i)
first_not P decide [] = inl tt
first_not {A} P decide (x ∷ xs) = of (decide x) (first_not P decide xs)
  where
    of : Decided (P x) → AllByRecursion P xs ⊎ ((i : ℕ) × FirstNot P xs i) → AllByRecursion P (x ∷ xs) ⊎ ((i : ℕ) × FirstNot P (x ∷ xs) i)
    of (inr not) rest = inr (zero, not)
    of (inl p) (inl all) = inl (p, all)
    of (inl p) (inr f) = inr (suc f.0, (p, f.1))

module _ (limits : Limits) (from : code.CodeParts) (plan : Plan) (counts : CountsFit from limits) where
  abbrev ss : List Seat
  ss = seats (works from.ops) (pairs_of plan.pairs)

  abbrev few : ℕ → ℕ → Bool
  few k t = rows_are_few from.ops limits ss k t

  there_decided : (s : Seat) → Decided (IsThere limits s.at)
  there_decided s = of (less_decided s.at.stage limits.stages) (less_decided s.at.table limits.tables)
    where
      of : Decided (s.at.stage < limits.stages) → Decided (s.at.table < limits.tables) → Decided (IsThere limits s.at)
      of (inl k) (inl t) = inl (record { stage = k; table = t })
      of (inr not) t = inr (λ is. not is.stage)
      of (inl k) (inr not) = inr (λ is. not is.table)

  -- ---- arrays of a stage

  few_calls : (k : ℕ) → (limits.arrays < arrays_at k ss) ⊎ (arrays_at k ss ≤ limits.arrays) → (arrays_at k ss ≤ limits.arrays) ⊎ (limits.arrays < arrays_at k ss)
  few_calls k (inl many) = inr many
  few_calls k (inr all) = inl all

  abbrev placed : PlacedParts
  placed = record { code = from; stages = map (stage_code from.ops) (stages from.ops limits ss) }

  audited_arrays : AreThere limits ss → AreBehind ss → ((k t : ℕ) → few k t ≡ true) →
      ((k : ℕ) → k < limits.stages → arrays_at k ss ≤ limits.arrays) ⊎ First (λ k. arrays_at k ss ≤ limits.arrays) (λ k. limits.arrays < arrays_at k ss) limits.stages →
      There (IsAudited limits from plan)
  audited_arrays there behind rows (inl all) = (
    Ok placed,
    record {
      counts = counts;
      rules = record { there = there; order = behind; rows = rows; arrays = all_crowds limits ss there all };
      code_is = refl;
      stages_are = refl;
    },
  )
  audited_arrays there behind rows (inr f) =
      (Err (refusal.Placement (placement.Arrays f.at)), (counts, (there, behind, rows, record { full = f.holds; first = f.before })))

  -- ---- rows of a table

  abbrev Full : ℕ → Type 0
  Full k = (t : ℕ) → t < tables_in k ss → few k t ≡ true

  abbrev Wide : ℕ → Type 0
  Wide k = First (λ t. few k t ≡ true) (λ t. few k t ≡ false) (tables_in k ss)

  either : (k t : ℕ) → (few k t ≡ true) ⊎ (few k t ≡ false)
  either k t = of (few k t) refl
    where
      of : (b : Bool) → few k t ≡ b → (few k t ≡ true) ⊎ (few k t ≡ false)
      of true is = inl is
      of false is = inr is

  in_stage : (k : ℕ) → Full k ⊎ Wide k
  in_stage k = first (λ t. few k t ≡ true) (λ t. few k t ≡ false) (either k) (tables_in k ss)

  first_wide : (f : First Full Wide limits.stages) → FirstWide from.ops limits ss f.at f.holds.at
  first_wide f = record { wide = f.holds.holds; first = λ j u before. of j u before }
    where
      below : (j u : ℕ) → j < f.at → (u < tables_in j ss) ⊎ (tables_in j ss ≤ u) → few j u ≡ true
      below j u less (inl inside) = f.before j less u inside
      below j u less (inr past) = few_beyond from.ops limits ss j u past

      of : (j u : ℕ) → (j < f.at) ⊎ ((j ≡ f.at) × (u < f.holds.at)) → few j u ≡ true
      of j u (inl less) = below j u less (cases_lt u (tables_in j ss))
      of j u (inr same) = subst (λ (k : ℕ). few k u ≡ true) (sym same.0) (f.holds.before u same.1)

  audited_rows : AreThere limits ss → AreBehind ss → ((k : ℕ) → k < limits.stages → Full k) ⊎ First Full Wide limits.stages → There (IsAudited limits from plan)
  audited_rows there behind (inl all) =
      audited_arrays there behind (all_few from.ops limits ss there (λ k t less inside. all k less t inside))
      (first (λ k. arrays_at k ss ≤ limits.arrays) (λ k. limits.arrays < arrays_at k ss) (λ k. few_calls k (cases_lt limits.arrays (arrays_at k ss))) limits.stages)
  audited_rows there behind (inr f) = (Err (refusal.Placement (placement.Rows f.at f.holds.at)), (counts, (there, behind, first_wide f)))

  -- ---- the order of nodes, and their places

  audited_order : AreThere limits ss → AreBehind ss ⊎ ((i : ℕ) × FirstNot (λ (s : Seat). Behind ss s.node s.at.stage) ss i) → There (IsAudited limits from plan)
  audited_order there (inl behind) = audited_rows there behind (first Full Wide in_stage limits.stages)
  audited_order there (inr f) = (Err (refusal.Placement (placement.Early f.0)), (counts, (there, f.1)))

  audited_places : AreThere limits ss ⊎ ((i : ℕ) × FirstNot (λ (s : Seat). IsThere limits s.at) ss i) → There (IsAudited limits from plan)
  audited_places (inl there) =
      audited_order there (first_not (λ (s : Seat). Behind ss s.node s.at.stage) (λ s. behind_decided s.node s.at.stage ss) ss)
  audited_places (inr f) = (Err (refusal.Placement (placement.Range f.0)), (counts, f.1))

  pub audited_there : There (IsAudited limits from plan)
  audited_there = audited_places (first_not (λ (s : Seat). IsThere limits s.at) there_decided ss)
