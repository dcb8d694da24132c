use Rattle.std.proofs.Common.{◌≡◌, ◌≢◌, ℕ, suc, Bool, List, [], ◌∷◌, length, true, false, ◌&&◌, nat_lt, ◌^◌, refl, sym, ap, ◌∙◌}
use Rattle.lucid_core.specs.Fits.{args_fit}
use Rattle.lucid_core.proofs.fits.args_fit.Goals as goal

and_false : (b : Bool) → (b && false) ≡ false
and_false true = refl
and_false false = refl

-- Of different lengths they don't fit.
lengths_differ : (ws xs : List ℕ) → length ws ≢ length xs → args_fit ws xs ≡ false
lengths_differ [] [] ne = absurd (ne refl)
lengths_differ [] (x ∷ xs) ne = refl
lengths_differ (w ∷ ws) [] ne = refl
lengths_differ (w ∷ ws) (x ∷ xs) ne = ap (λ b. nat_lt x (2 ^ w) && b) (lengths_differ ws xs (λ e. ne (ap (λ n. suc n) e))) ∙ and_false (nat_lt x (2 ^ w))

pub returns-then-params-args : goal.returns-then-params-args
returns-then-params-args c = sym (lengths_differ c.args.params.now c.args.args.now c.if-params-args.true)
