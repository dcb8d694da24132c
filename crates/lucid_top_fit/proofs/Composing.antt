-- What inlining and the passes answered is the composed code, or why there is none.
use Rattle.std.proofs.Common.{◌≡◌, ◌∙◌, ℕ, ◌<◌, ◌≤◌, List, Result, Ok, Err, length, map, refl, sym, ap, ap₂, subst, arith}
use Rattle.lucid_code.specs.Parts as code
use Rattle.lucid_core.specs.Parts.{CoreParts}
use Rattle.lucid_effects_spec.specs.Size.{flat_size}
use Rattle.lucid_inline.specs.declared.error.InlineError.{InlineError}
use Rattle.lucid_inline.specs.declared.error.InlineError.TheVariants as inline
use Rattle.lucid_inline.specs.Refusals.{Fits, Refused, largest, length_of, size_of}
use Rattle.lucid_inline_count.specs.Counts.{capped}
use Rattle.lucid_inline_spec.specs.Flat.{flat_of}
use Rattle.lucid_stages.specs.Counts.{most_ops}
use Rattle.lucid_pass.specs.Through.{gone, through}
use Rattle.lucid_pass_laws.specs.Core.{LengthIsCounted, SizeIsCounted}
use Rattle.lucid_pass_spec.specs.Replace.{Rewrite}
use Rattle.lucid_top_fit.specs.Causes.{of_inline}
use Rattle.lucid_top_fit.specs.Fit.{HasNormal, IsComposed, Composed, RunsOn, composed, normal_of}
use Rattle.lucid_top_fit.specs.Passes.{PassView, RanOut, passes_view}
use Rattle.lucid_top_fit.proofs.Runs.{only-memory, seen-gives}
use Rattle.lucid_top_words.specs.declared.no_fit.NoFit.TheVariants as fit
use Rattle.lucid_top_words.specs.declared.refusal.Refusal.{Refusal}
use Rattle.lucid_top_words.specs.declared.refusal.Refusal.TheVariants as refusal
use Rattle.lucid_top_words.specs.Outcome.{Alike, IsTheAnswer, Declines}
use Rattle.lucid_top_words.specs.Words.{Bytes}

pub made-is : (core : CoreParts) (passes : List PassView) (made : Composed) → HasNormal core → made ≡ composed core passes → IsTheAnswer (IsComposed core passes) (Ok made)
made-is core passes made fits is = record { is = (fits, is); only = only }
  where
    only : (p : Result Composed Refusal) → IsComposed core passes p → Alike p (Ok made)
    only (Ok m) o = o.1 ∙ sym is
    only (Err (refusal.NoFit (fit.Ops n))) o = absurd (omega (arith, fits.ops, o.0))
    only (Err (refusal.NoFit (fit.Size n))) o = absurd (omega (arith, fits.size, o.1))
    only (Err r) o = absurd o

-- a number within a bound that 64 bits hold is within it without its cap
within : (n most : ℕ) → most ≤ 262144 → capped n ≤ most → n ≤ most
within n most small le = omega (arith, small, le)

beyond : (n most : ℕ) → most < capped n → most < n
beyond n most lt = omega (arith, lt)

-- ---- the counts over the program are those of its forms

module _ (core : CoreParts) (counts : LengthIsCounted core) (sizes : SizeIsCounted core) where
  abbrev ops : ℕ
  ops = length (normal_of core).ops

  abbrev size : ℕ
  size = flat_size (flat_of core)

  ops-are : length_of core ≡ capped ops
  ops-are = ap capped (sym counts)

  size-is : size_of core ≡ capped size
  size-is = ap capped (sym sizes)

  few : length_of core ≤ most_ops → ops ≤ most_ops
  few le = within ops most_ops (omega arith) (subst (λ (n : ℕ). n ≤ most_ops) ops-are le)

  many : most_ops < length_of core → most_ops < ops
  many lt = beyond ops most_ops (subst (λ (n : ℕ). most_ops < n) ops-are lt)

  small : size_of core ≤ largest → size ≤ largest
  small le = within size largest (omega arith) (subst (λ (n : ℕ). n ≤ largest) size-is le)

  large : largest < size_of core → largest < size
  large lt = beyond size largest (subst (λ (n : ℕ). largest < n) size-is lt)

  pub has-normal : Fits core most_ops → HasNormal core
  has-normal fits = record { ops = few fits.length; size = small fits.size }

  pub not-composed : (passes : List PassView) (e : InlineError) → Refused core most_ops e → Declines (IsComposed core passes) (of_inline e)
  not-composed passes inline.Memory is = tt
  not-composed passes (inline.TooMany handler n) is = record { is = (many is.passes, is.count ∙ ops-are); only = only }
    where
      only : (p : Result Composed Refusal) → IsComposed core passes p → Alike p (Err (refusal.NoFit (fit.Ops n)))
      only (Ok m) o = let lt = many is.passes in absurd (omega (arith, o.0.ops, lt))
      only (Err (refusal.NoFit (fit.Ops k))) o = ap (λ (i : ℕ). refusal.NoFit (fit.Ops i)) (o.1 ∙ sym (is.count ∙ ops-are))
      only (Err (refusal.NoFit (fit.Size k))) o = let lt = many is.passes in absurd (omega (arith, o.0, lt))
      only (Err r) o = absurd o
  not-composed passes (inline.TooLarge handler n) is = record { is = (few is.length, large is.passes, is.size ∙ size-is); only = only }
    where
      only : (p : Result Composed Refusal) → IsComposed core passes p → Alike p (Err (refusal.NoFit (fit.Size n)))
      only (Ok m) o = let lt = large is.passes in absurd (omega (arith, o.0.size, lt))
      only (Err (refusal.NoFit (fit.Ops k))) o = let le = few is.length in absurd (omega (arith, o.0, le))
      only (Err (refusal.NoFit (fit.Size k))) o = ap (λ (i : ℕ). refusal.NoFit (fit.Size i)) (o.2 ∙ sym (is.size ∙ size-is))
      only (Err r) o = absurd o

-- where it is refused, no pass ran
pub none-composed : (P : Type 0) (core : CoreParts) (passes : List PassView) (r : Refusal) → Declines (IsComposed core passes) r → (from : code.CodeParts) → RunsOn core from → RanOut {X = P} (Err r)
none-composed P core passes r declined from on = only-memory P (IsComposed core passes) (composed core passes) r declined (on.0, refl)

-- what passes made and told of the normal form
pub made-as : {B : Type 0} (name : B → Bytes) (gives : B → Rewrite) (removed : B → ℕ) (old : List B) (core : CoreParts) (start new : code.CodeParts) (told : List ℕ) →
    start ≡ normal_of core → new ≡ through (map gives old) start → told ≡ gone (map gives old) start →
    ◌≡◌ {A = Composed} (record { code = new; gone = told }) (composed core (passes_view name gives removed old))
made-as {B} name gives removed old core start new told starts makes tells =
    let seen : map gives old ≡ map PassView.gives (passes_view name gives removed old) = sym (seen-gives name gives removed old) in
    ap₂ (λ (c : code.CodeParts) (ns : List ℕ). record { code = c; gone = ns })
    (makes ∙ ap₂ (λ (gs : List Rewrite) (from : code.CodeParts). through gs from) seen starts)
    (tells ∙ ap₂ (λ (gs : List Rewrite) (from : code.CodeParts). gone gs from) seen starts)
