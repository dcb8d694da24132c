-- What first fit answered is where the code is placed, or why it isn't.
use Rattle.std.proofs.Common.{◌≡◌, ◌≢◌, ◌∙◌, Result, Ok, Err, length, refl, ap, arith}
use Rattle.std.proofs.lemmas.List.{length-map}
use Rattle.lucid_code.specs.Parts as code
use Rattle.lucid_conf.specs.declared.limits.Limits.{Limits}
use Rattle.lucid_core.specs.Parts.{CoreParts}
use Rattle.lucid_layout.specs.declared.error.FitError.{FitError}
use Rattle.lucid_layout.specs.declared.error.FitError.TheVariants as cause
use Rattle.lucid_stages.specs.declared.count_error.CountError.{CountError}
use Rattle.lucid_stages.specs.declared.count_error.CountError.TheVariants as count
use Rattle.lucid_stages.specs.Counts.{CountsFail, CountsFit}
use Rattle.lucid_stages.specs.Stage.{laid, seats}
use Rattle.lucid_layout_laws.specs.Laws.{LayoutsAreOne}
use Rattle.lucid_layout.specs.Layout.{IsLayout, IsRefused}
use Rattle.lucid_stages.specs.Placing.{stage_code}
use Rattle.lucid_stages.specs.NodeWorks.{works}
use Rattle.lucid_stages.proofs.StageLemmas.{laid_length}
use Rattle.lucid_tables.specs.Placed.{PlacedParts}
use Rattle.lucid_top_fit.specs.Causes.{of_count, of_fit}
use Rattle.lucid_top_fit.specs.Fit.{IsPlaced}
use Rattle.lucid_top_fit.specs.Placing.{IsCounted}
use Rattle.lucid_top_fit.proofs.Told.{Tells, given, only-cause}
use Rattle.lucid_top_words.specs.declared.no_fit.NoFit.TheVariants as fit
use Rattle.lucid_top_words.specs.declared.refusal.Refusal.{Refusal}
use Rattle.lucid_top_words.specs.declared.refusal.Refusal.TheVariants as refusal
use Rattle.lucid_top_words.specs.Outcome.{Alike, IsTheAnswer, Declines}

module _ (core : CoreParts) (limits : Limits) (from : code.CodeParts) where
  -- ---- places

  told : Tells (IsPlaced core limits from) (IsRefused from limits) cause.Memory (of_fit core)
  told (refusal.NoFit (fit.Ops n)) o = (cause.Ops n, o, (λ memory. cc), refl)
  told (refusal.NoFit (fit.Bits n)) o = (cause.Fields n, o, (λ memory. cc), refl)
  told (refusal.NoFit (fit.Arms name)) o = (cause.Arms o.0, o.1, (λ memory. cc), ap (λ name. refusal.NoFit (fit.Arms name)) o.2)
  told (refusal.NoFit (fit.Node i)) o = (cause.Node i, o, (λ memory. cc), refl)
  told r o = absurd o

  pub placed-is : (placed : PlacedParts) → LayoutsAreOne → IsLayout from limits placed → IsTheAnswer (IsPlaced core limits from) (Ok placed)
  placed-is placed one is =
      given (IsPlaced core limits from) (IsRefused from limits) cause.Memory (of_fit core) told (λ p e. one.never_both from limits p e) placed is
      (λ p o. one.one from limits p placed o is)

  -- so many stages as there are, whatever stands in them
  pub stages-laid : (placed : PlacedParts) → IsLayout from limits placed → length placed.stages ≡ limits.stages
  stages-laid placed is =
      let done = seats (works from.ops) is.fit.0 in
      ap length is.fit.2 ∙ length-map (laid from.ops limits done) (stage_code from.ops) ∙ laid_length from.ops limits done

  only : (e : FitError) → LayoutsAreOne → IsRefused from limits e → e ≢ cause.Memory → (p : Result PlacedParts Refusal) → IsPlaced core limits from p → Alike p (Err (of_fit core e))
  only e one is not =
      only-cause (IsPlaced core limits from) (IsRefused from limits) cause.Memory (of_fit core) told (λ p f. one.never_both from limits p f)
      (λ f g. one.one_cause from limits f g) e is not

  pub not-placed : (e : FitError) → LayoutsAreOne → IsRefused from limits e → Declines (IsPlaced core limits from) (of_fit core e)
  not-placed cause.Memory one is = tt
  not-placed (cause.Ops n) one is = record { is = is; only = only (cause.Ops n) one is (λ memory. cc) }
  not-placed (cause.Fields n) one is = record { is = is; only = only (cause.Fields n) one is (λ memory. cc) }
  not-placed (cause.Arms array) one is = record { is = (array, is, refl); only = only (cause.Arms array) one is (λ memory. cc) }
  not-placed (cause.Node i) one is = record { is = is; only = only (cause.Node i) one is (λ memory. cc) }

  -- ---- counts alone

  pub counted-is : CountsFit from limits → IsTheAnswer (IsCounted core limits from) (Ok from)
  counted-is counts = record { is = (counts, refl); only = none }
    where
      none : (p : Result code.CodeParts Refusal) → IsCounted core limits from p → Alike p (Ok from)
      none (Ok c) o = o.1
      none (Err (refusal.NoFit (fit.Ops n))) o = absurd (omega (arith, counts.ops, o.0, o.1))
      none (Err (refusal.NoFit (fit.Bits n))) o = absurd (omega (arith, counts.bits, o.1, o.2))
      none (Err (refusal.NoFit (fit.Arms name))) o = absurd (omega (arith, counts.arms o.0 o.1.2.there, o.1.2.crowded))
      none (Err r) o = absurd o

  as-placed : (r : Refusal) → IsCounted core limits from (Err r) → IsPlaced core limits from (Err r)
  as-placed (refusal.NoFit (fit.Ops n)) o = o
  as-placed (refusal.NoFit (fit.Bits n)) o = o
  as-placed (refusal.NoFit (fit.Arms name)) o = o
  as-placed r o = absurd o

  only-count : (e : FitError) → LayoutsAreOne → IsRefused from limits e → e ≢ cause.Memory → (CountsFit from limits → ⊥) →
      (p : Result code.CodeParts Refusal) → IsCounted core limits from p → Alike p (Err (of_fit core e))
  only-count e one is not passes (Ok c) o = absurd (passes o.0)
  only-count e one is not passes (Err r) o = only e one is not (Err r) (as-placed r o)

  pub not-counted : (e : CountError) → LayoutsAreOne → CountsFail from limits e → Declines (IsCounted core limits from) (of_count core e)
  not-counted count.Memory one is = tt
  not-counted (count.Ops n) one is = record { is = is; only = only-count (cause.Ops n) one is (λ memory. cc) (λ counts. omega (arith, counts.ops, is.0, is.1)) }
  not-counted (count.Fields n) one is = record { is = is; only = only-count (cause.Fields n) one is (λ memory. cc) (λ counts. omega (arith, counts.bits, is.1, is.2)) }
  not-counted (count.Arms array) one is =
      record { is = (array, is, refl); only = only-count (cause.Arms array) one is (λ memory. cc) (λ counts. omega (arith, counts.arms array is.2.there, is.2.crowded)) }
