-- Loops that take one turn after another.
use Rattle.std.proofs.Common.{◌≡◌, ℕ, suc, ◌+◌, ◌-◌, ◌<◌, sym, ap, ◌∙◌, arith}

-- a fact before a turn holds after it
pub one_more : {X : Type 0} {x : X} (f : ℕ → X) (n at : ℕ) → at < n → f (n - at) ≡ x → f (suc (n - (at + 1))) ≡ x
one_more f n at below is = let turn : n - at ≡ suc (n - (at + 1)) = omega arith in sym (ap f turn) ∙ is
