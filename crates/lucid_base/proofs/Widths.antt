-- Numbers of w bits inside machine words of 64.
use Rattle.std.proofs.Common.{◌≡◌, ℕ, ◌+◌, ◌-◌, ◌*◌, ◌/◌, ◌%◌, ◌^◌, ◌<◌, ◌≤◌, ap, sym, ◌∙◌, arith}
use Rattle.std.proofs.lemmas.Nat.{pow_pos, pow-add, shr_high, shr_below}
use Rattle.std.proofs.Math.Pow.{mod-mod-pow, pow_mono}
use Rattle.std.proofs.Math.Nat.{add-mul-mod_self_right, mul-mod_left, zero-mod}

-- the word is w bits above the others
word_is : (w : ℕ) → w ≤ 64 → 2 ^ 64 ≡ 2 ^ w * 2 ^ (64 - w)
word_is w h =
    let e : 64 ≡ w + (64 - w) = omega arith in
    ap (λ n. 2 ^ n) e ∙ pow-add 2 w (64 - w)

ones_split : (p q : ℕ) → 0 < q → (p + 1) * q - 1 ≡ p * q + (q - 1)
ones_split p q h = omega arith

-- 64 ones, shifted right until w are left
pub ones_shr : (w : ℕ) → w ≤ 64 → (2 ^ 64 - 1) / 2 ^ (64 - w) ≡ 2 ^ w - 1
ones_shr w h =
    let one : 2 ^ w ≡ 2 ^ w - 1 + 1 = omega (arith, pow_pos w) in
    let word : 2 ^ 64 - 1 ≡ (2 ^ w - 1 + 1) * 2 ^ (64 - w) - 1 = ap (λ n. n - 1) (word_is w h ∙ ap (λ n. n * 2 ^ (64 - w)) one) in
    let split = ones_split (2 ^ w - 1) (2 ^ (64 - w)) (pow_pos (64 - w)) in
    ap (λ n. n / 2 ^ (64 - w)) (word ∙ split)
    ∙ shr_high (2 ^ w - 1) (64 - w) (2 ^ (64 - w) - 1) (omega (arith, pow_pos (64 - w)))

-- the low bits of a word are those of the number
pub low-word : (w n : ℕ) → w ≤ 64 → n % 2 ^ 64 % 2 ^ w ≡ n % 2 ^ w
low-word w n h =
    let e : 64 ≡ (64 - w) + w = omega arith in
    ap (λ k. n % 2 ^ k % 2 ^ w) e ∙ mod-mod-pow n (64 - w) w

-- a word that a number fills up to nothing is the number's negation, at every width
pub low-negated : (w a r : ℕ) → w ≤ 64 → a < 2 ^ w → (r + a) % 2 ^ 64 ≡ 0 → r % 2 ^ w ≡ (2 ^ w - a) % 2 ^ w
low-negated w a r h below filled =
    let none : (r + a) % 2 ^ w ≡ 0 = sym (low-word w (r + a) h) ∙ ap (λ n. n % 2 ^ w) filled ∙ zero-mod (2 ^ w) in
    let turns : r + 1 * 2 ^ w ≡ 2 ^ w - a + (r + a) / 2 ^ w * 2 ^ w = omega (arith, none, below) in
    sym (add-mul-mod_self_right r 1 (2 ^ w)) ∙ ap (λ n. n % 2 ^ w) turns
    ∙ add-mul-mod_self_right (2 ^ w - a) ((r + a) / 2 ^ w) (2 ^ w)

wraps : (p r a b : ℕ) → b < p → a + (p * (r + 1) - b) ≡ a + p - b + r * p
wraps p r a b below = omega arith

-- a difference that wraps in the word wraps the same at every width
pub low-difference : (w a b : ℕ) → w ≤ 64 → b < 2 ^ w → (a + (2 ^ 64 - b)) % 2 ^ 64 % 2 ^ w ≡ (a + 2 ^ w - b) % 2 ^ w
low-difference w a b h below =
    let one : 2 ^ (64 - w) ≡ 2 ^ (64 - w) - 1 + 1 = omega (arith, pow_pos (64 - w)) in
    let word : 2 ^ 64 ≡ 2 ^ w * (2 ^ (64 - w) - 1 + 1) = word_is w h ∙ ap (λ n. 2 ^ w * n) one in
    low-word w (a + (2 ^ 64 - b)) h
    ∙ ap (λ n. n % 2 ^ w) (ap (λ n. a + (n - b)) word ∙ wraps (2 ^ w) (2 ^ (64 - w) - 1) a b below)
    ∙ add-mul-mod_self_right (a + 2 ^ w - b) (2 ^ (64 - w) - 1) (2 ^ w)

-- a number that is shifted left by w or more leaves w zeros
pub shl_out : (w a k : ℕ) → w ≤ k → a * 2 ^ k % 2 ^ w ≡ 0
shl_out w a k h =
    let e : k ≡ (k - w) + w = omega arith in
    let far : 2 ^ k ≡ 2 ^ (k - w) * 2 ^ w = ap (λ n. 2 ^ n) e ∙ pow-add 2 (k - w) w in
    let product : a * 2 ^ k ≡ a * 2 ^ (k - w) * 2 ^ w = omega (arith, ap (λ n. a * n) far) in
    ap (λ n. n % 2 ^ w) product ∙ mul-mod_left (a * 2 ^ (k - w)) (2 ^ w)

-- a number of w bits that is shifted right by w or more is gone
pub shr_out : (w a k : ℕ) → w ≤ k → a < 2 ^ w → a / 2 ^ k ≡ 0
shr_out w a k h below =
    let room : 2 ^ w ≤ 2 ^ k = pow_mono h in
    let e : 2 ^ k ≡ 2 ^ (0 + k) = ap (λ n. 2 ^ n) (omega arith) in
    let gone : a / 2 ^ k < 2 ^ 0 = shr_below a 0 k (omega (arith, e)) in
    omega arith
