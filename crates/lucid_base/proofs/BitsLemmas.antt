-- Values made by `bits_of`.
use Rattle.std.proofs.Common.{◌≡◌, ℕ, ◌^◌, ◌%◌, ◌∙◌, sym, subst}
use Rattle.std.proofs.Math.Nat.{mod-eq_of_lt}
use Rattle.lucid_base.specs.Bits.{bits_of, Bits-same}
use Rattle.lucid_base.specs.declared.bits.Bits.{Bits}

-- A value of width w and number n is the number n of width w, since it fits.
pub is_bits_of : (a : Bits) (w n : ℕ) → a.width ≡ w → a.value ≡ n → a ≡ bits_of w n
is_bits_of a w n width value =
    let fits : a.value % 2 ^ a.width ≡ a.value = mod-eq_of_lt a.fits in
    let same : n % 2 ^ w ≡ n = subst (λ (v : ℕ). v % 2 ^ w ≡ v) value (subst (λ (u : ℕ). a.value % 2 ^ u ≡ a.value) width fits) in
    Bits-same a (bits_of w n) width (value ∙ sym same)

-- The low bits of a number, as a value.
pub is_low_bits_of : (a : Bits) (w n : ℕ) → a.width ≡ w → a.value ≡ n % 2 ^ w → a ≡ bits_of w n
is_low_bits_of a w n width value = Bits-same a (bits_of w n) width value
