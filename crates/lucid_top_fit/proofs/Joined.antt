-- The composed code and its places, joined.
use Rattle.std.proofs.Common.{◌≡◌, List, Result, Ok, Err}
use Rattle.lucid_conf.specs.declared.limits.Limits.{Limits}
use Rattle.lucid_core.specs.Parts.{CoreParts}
use Rattle.lucid_tables.specs.Placed.{PlacedParts}
use Rattle.lucid_top_fit.specs.declared.layout.Fitting.{Fitting}
use Rattle.lucid_top_fit.specs.Fit.{Fit, IsComposed, IsFitted, IsPlaced, Composed, fit_of, fit_view}
use Rattle.lucid_top_fit.specs.Passes.{PassView}
use Rattle.lucid_top_words.specs.declared.refusal.Refusal.{Refusal}
use Rattle.lucid_top_words.specs.Outcome.{IsTheAnswer, Declines, FollowedBy, Prepares}
use Rattle.lucid_top_words.proofs.Parts.{Prepares-err, Prepares-ok, one-text}

module _ (core : CoreParts) (limits : Limits) (passes : List PassView) where
  abbrev told : Composed → PlacedParts → Result Fit Refusal → Type 0
  told made placed p = p ≡ Ok (fit_of made.gone placed)

  abbrev laid : Composed → Result Fit Refusal → Type 0
  laid made p = FollowedBy (IsPlaced core limits made.code) (told made) p

  -- there was no code to place
  pub refused-first : (r : Refusal) (result : Result Fitting Refusal) → result ≡ Err r → Declines (IsComposed core passes) r → Prepares (IsFitted core limits passes) fit_view result
  refused-first r result is declines = Prepares-err (IsComposed core passes) laid fit_view r result is declines

  -- or no place for it
  pub refused-last : (made : Composed) (r : Refusal) (result : Result Fitting Refusal) → IsTheAnswer (IsComposed core passes) (Ok made) → result ≡ Err r →
      Declines (IsPlaced core limits made.code) r → Prepares (IsFitted core limits passes) fit_view result
  refused-last made r result composed is declines =
      Prepares-ok (IsComposed core passes) laid fit_view made result composed (Prepares-err (IsPlaced core limits made.code) (told made) fit_view r result is declines)

  -- or there was
  pub fitted-is : (made : Composed) (placed : PlacedParts) → IsTheAnswer (IsComposed core passes) (Ok made) → IsTheAnswer (IsPlaced core limits made.code) (Ok placed) →
      IsTheAnswer (IsFitted core limits passes) (Ok (fit_of made.gone placed))
  fitted-is made placed composed is =
      let fit = fit_of made.gone placed in
      Prepares-ok {Q = Fit} (IsComposed core passes) laid (λ f. f) made (Ok fit) composed
      (Prepares-ok {Q = Fit} (IsPlaced core limits made.code) (told made) (λ f. f) placed (Ok fit) is (one-text fit))
