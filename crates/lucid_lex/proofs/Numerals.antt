-- A numeral gets no smaller by more digits.
use Rattle.std.proofs.Common.{◌≡◌, ℕ, ◌+◌, ◌*◌, ◌^◌, ◌<◌, ◌≤◌, List, [], ◌∷◌, length, get_or, drop, arith}
use Rattle.std.proofs.Math.Nat.{mul-le-mul_left}
use Rattle.std.proofs.lemmas.List.{at_drop_more}
use Rattle.std.specs.List.{fold}
use Rattle.std.specs.Char.{digit_value}
use Rattle.lucid_lex.specs.Piece.{number_of}

-- the number that more digits make of one
abbrev pub with_digits : ℕ → ℕ → List ℕ → ℕ
with_digits base n digits = fold (λ m c. m * base + digit_value c) n digits

le-with_digits : (base n : ℕ) (digits : List ℕ) → 0 < base → n ≤ with_digits base n digits
le-with_digits base n [] positive = omega arith
le-with_digits base n (c ∷ digits) positive =
    let one_up : 1 ≤ base = omega arith in
    let more : n ≤ n * base + digit_value c = omega (arith, mul-le-mul_left n one_up) in
    omega (arith, le-with_digits base (n * base + digit_value c) digits positive)

-- where the digits so far are too large with one more, all of them are
pub too_large : (base n i : ℕ) (digits : List ℕ) → 0 < base → i < length digits → with_digits base n (drop i digits) ≡ number_of base digits → ¬ (n * base + digit_value (get_or digits i 0) < 2 ^ 64) → ¬ (number_of base digits < 2 ^ 64)
too_large base n i digits positive within so_far large small =
    let step = at_drop_more (with_digits base n) digits i 0 within in
    let grown = le-with_digits base (n * base + digit_value (get_or digits i 0)) (drop (i + 1) digits) positive in
    large (omega (arith, step, grown, so_far))
