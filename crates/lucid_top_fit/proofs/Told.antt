-- Answers whose refusals tell the causes of an error: where there is one cause, or none and one value, the answer is one.
use Rattle.std.proofs.Common.{◌≡◌, ◌≢◌, ◌∙◌, Result, Ok, Err, refl, ap, subst}
use Rattle.lucid_top_words.specs.declared.refusal.Refusal.{Refusal}
use Rattle.lucid_top_words.specs.declared.refusal.Refusal.TheVariants as refusal
use Rattle.lucid_top_words.specs.Outcome.{Alike, IsTheAnswer, SameRefusal}

itself : (r : Refusal) → SameRefusal r r
itself (refusal.NoOrder decl line cycle) = (refl, refl)
itself r = refl

same-refusal : (r s : Refusal) → r ≡ s → SameRefusal r s
same-refusal r s is = subst (SameRefusal r) is (itself r)

-- what a refusal tells, of errors that have causes, and one that has none: want of memory
abbrev pub Tells : {X E : Type 0} → (Result X Refusal → Type 0) → (E → Type 0) → E → (E → Refusal) → Type 0
Tells {X} {E} answers causes memory of = (r : Refusal) → answers (Err r) → (e : E) × causes e × (e ≢ memory) × (r ≡ of e)

module _ {X E : Type 0} (answers : Result X Refusal → Type 0) (causes : E → Type 0) (memory : E) (of : E → Refusal) (tells : Tells answers causes memory of)
    (never : (x : X) (e : E) → answers (Ok x) → causes e → e ≡ memory) where
  pub given : (x : X) → answers (Ok x) → ((y : X) → answers (Ok y) → y ≡ x) → IsTheAnswer answers (Ok x)
  given x is one = record { is = is; only = only }
    where
      only : (p : Result X Refusal) → answers p → Alike p (Ok x)
      only (Ok y) o = one y o
      only (Err r) o = let t = tells r o in absurd (t.2 (never x t.0 is t.1))

  pub only-cause : ((e f : E) → causes e → causes f → e ≢ memory → f ≢ memory → e ≡ f) → (e : E) → causes e → e ≢ memory →
      (p : Result X Refusal) → answers p → Alike p (Err (of e))
  only-cause one e is not (Ok x) o = absurd (not (never x e o is))
  only-cause one e is not (Err r) o = let t = tells r o in same-refusal r (of e) (t.3 ∙ ap of (one t.0 e t.1 is t.2 not))
