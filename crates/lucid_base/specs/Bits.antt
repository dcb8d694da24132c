-- How a definition makes a number of a stated width.
use Rattle.std.specs.Prelude.{◌≡◌, ℕ, ◌%◌, ◌^◌, ◌<◌}
use Rattle.std.specs.Coded.{le_prop}
use Rattle.std.proofs.Common.{ap, subst}
use Rattle.std.proofs.lemmas.Nat.{mod_below, pow_pos}
use Rattle.lucid_base.specs.declared.bits.Bits.{Bits}

-- a number of w bits, with the fact that it fits
abbrev pub of_width : (w n : ℕ) → n < 2 ^ w → Bits
of_width w n fits = record { width = w; value = n; fits = fits }

-- the number of w bits that is n modulo 2 ^ w
abbrev pub bits_of : ℕ → ℕ → Bits
bits_of w n = of_width w (n % 2 ^ w) (mod_below n (2 ^ w) (pow_pos w))

-- numbers of one width and one value are one
pub Bits-same : (a b : Bits) → a.width ≡ b.width → a.value ≡ b.value → a ≡ b
Bits-same a b width value =
    let Widths : ℕ → Type 0 = λ w. (n : ℕ) (fits : n < 2 ^ w) → a.value ≡ n → a ≡ of_width w n fits in
    let Values : ℕ → Type 0 = λ n. (fits : n < 2 ^ a.width) → a ≡ of_width a.width n fits in
    let one_proof : Values a.value = λ fits. ap (of_width a.width a.value) (le_prop a.fits fits) in
    subst Widths width (λ n fits same. subst Values same one_proof fits) b.value b.fits value
