-- Numbers told apart from the last one back.
use Rattle.std.proofs.Common.{◌≡◌, ◌∙◌, ◌<◌, ◌≤◌, ◌-◌, ◌&&◌, not, ap, sym, subst, ℕ, zero, suc, List, [], ◌∷◌, Bool, true, false, drop, length, get_or, if◌then◌else◌, nat_eq, arith, drop-cons}
use Rattle.std.proofs.lemmas.Grind.{common_steps}
use Rattle.lucid_base.specs.Numbers.{all_differ, is_in}

pub one_more : (xs : List ℕ) (at : ℕ) → at < length xs → drop at xs ≡ get_or xs at 0 ∷ drop (suc at) xs
one_more xs at h = drop-cons xs at 0 h

-- where two of the last are the same, two of all are
pub twice : (xs : List ℕ) (at : ℕ) → all_differ (drop at xs) ≡ false → all_differ xs ≡ false
twice xs zero is = is
twice [] (suc at) is = is
twice (x ∷ xs) (suc at) is = grind (arith, common_steps, twice xs at is)

pub first_of : (x : ℕ) (xs : List ℕ) (n : ℕ) → is_in n (x ∷ xs) ≡ (if nat_eq x n then true else is_in n xs)
first_of x xs n = grind (arith, common_steps)

repeats : (x : ℕ) (xs : List ℕ) → is_in x xs ≡ true → all_differ (x ∷ xs) ≡ false
repeats x xs is = ap (λ (there : Bool). not there && all_differ xs) is

-- the number before this place stands behind it too
pub repeated : (xs : List ℕ) (left : ℕ) → 0 < left → left ≤ length xs → is_in (get_or xs (left - 1) 0) (drop left xs) ≡ true → false ≡ all_differ xs
repeated xs zero more within there = absurd (omega (arith, more))
repeated xs (suc at) more within there =
    let e : suc at - 1 ≡ at = omega arith in
    let here : is_in (get_or xs at 0) (drop (suc at) xs) ≡ true = subst (λ (k : ℕ). is_in (get_or xs k 0) (drop (suc at) xs) ≡ true) e there in
    sym (twice xs at (ap all_differ (one_more xs at (omega (arith, within))) ∙ repeats (get_or xs at 0) (drop (suc at) xs) here))
