-- The places of `%d` in a text; 37 is '%' and 100 is 'd'.
use Rattle.std.proofs.Common.{◌≡◌, ℕ, zero, suc, ◌+◌, ◌<◌, ◌≤◌, Bool, true, false, ◌&&◌, if◌then◌else◌, List, [], ◌∷◌, ◌++◌, length, get_or, take, nat_eq, refl, sym, ◌∙◌, ap, arith, append_assoc, add-one, drop, drop-cons, length-drop, drop_of_length-le, subst, inl, inr, decimal}
use Rattle.std.proofs.lemmas.List.{take_all}
use Rattle.std.proofs.lemmas.Bool.{cases_lt}
use Rattle.std.proofs.lemmas.Bool.Decides.{nat_tests}
use Rattle.lucid_core.specs.Texts.{holes_of}
use Rattle.lucid_log.specs.Filled.{filled}

abbrev is_hole : ℕ → ℕ → Bool
is_hole a b = nat_eq a 37 && nat_eq b 100

-- the first hole takes the first number, and the text after it the others
pub filled-first : (before after : List ℕ) (n : ℕ) (numbers : List ℕ) → holes_of before ≡ 0 →
    filled (before ++ (37 ∷ 100 ∷ after)) (n ∷ numbers) ≡ before ++ (decimal n ++ filled after numbers)
filled-first [] after n numbers none = refl
filled-first (a ∷ []) after n numbers none = at (nat_eq a 37)
  where
    at : (b : Bool) → (if b && false then decimal n ++ filled (100 ∷ after) numbers else a ∷ (decimal n ++ filled after numbers)) ≡ a ∷ (decimal n ++ filled after numbers)
    at true = refl
    at false = refl
filled-first (a ∷ b ∷ before) after n numbers none = at (is_hole a b) (filled-first (b ∷ before) after n numbers) none
  where
    at : (h : Bool) → (holes_of (b ∷ before) ≡ 0 → filled (b ∷ before ++ (37 ∷ 100 ∷ after)) (n ∷ numbers) ≡ b ∷ before ++ (decimal n ++ filled after numbers)) →
        (if h then holes_of before + 1 else holes_of (b ∷ before)) ≡ 0 →
        (if h then decimal n ++ filled (before ++ (37 ∷ 100 ∷ after)) numbers else a ∷ filled (b ∷ before ++ (37 ∷ 100 ∷ after)) (n ∷ numbers)) ≡ a ∷ b ∷ before ++ (decimal n ++ filled after numbers)
    at true rest none = absurd (omega (arith, none))
    at false rest none = ap (λ (l : List ℕ). a ∷ l) (rest none)

-- a text and then a hole
pub holes_of-first : (before after : List ℕ) → holes_of before ≡ 0 → holes_of (before ++ (37 ∷ 100 ∷ after)) ≡ holes_of after + 1
holes_of-first [] after none = refl
holes_of-first (a ∷ []) after none = at (nat_eq a 37)
  where
    at : (b : Bool) → (if b && false then holes_of (100 ∷ after) + 1 else holes_of after + 1) ≡ holes_of after + 1
    at true = refl
    at false = refl
holes_of-first (a ∷ b ∷ before) after none = at (is_hole a b) (holes_of-first (b ∷ before) after) none
  where
    at : (h : Bool) → (holes_of (b ∷ before) ≡ 0 → holes_of (b ∷ before ++ (37 ∷ 100 ∷ after)) ≡ holes_of after + 1) →
        (if h then holes_of before + 1 else holes_of (b ∷ before)) ≡ 0 →
        (if h then holes_of (before ++ (37 ∷ 100 ∷ after)) + 1 else holes_of (b ∷ before ++ (37 ∷ 100 ∷ after))) ≡ holes_of after + 1
    at true rest none = absurd (omega (arith, none))
    at false rest none = rest none

-- no numbers change no text
pub filled-none : (text : List ℕ) → filled text [] ≡ text
filled-none [] = refl
filled-none (a ∷ []) = refl
filled-none (a ∷ b ∷ rest) = refl

-- one place more without a hole that ends there
pub holes_of-more : (text : List ℕ) (i : ℕ) → suc i < length text → holes_of (take (suc i) text) ≡ 0 → (get_or text i 0 ≡ 37 → get_or text (suc i) 0 ≡ 100 → ⊥) → holes_of (take (suc (suc i)) text) ≡ 0
holes_of-more [] i lt none not = absurd (omega (arith, lt))
holes_of-more (a ∷ []) i lt none not = absurd (omega (arith, lt))
holes_of-more (a ∷ b ∷ rest) zero lt none not = none_of_two a b not
  where
    none_of_two : (a b : ℕ) → (a ≡ 37 → b ≡ 100 → ⊥) → (if nat_eq a 37 && nat_eq b 100 then 0 + 1 else 0) ≡ 0
    none_of_two a b not = grind (arith, nat_tests, not)
holes_of-more (a ∷ b ∷ rest) (suc i) lt none not =
    at (is_hole a b) (λ none. holes_of-more (b ∷ rest) i (omega (arith, lt)) none not) none
  where
    at : (h : Bool) → (holes_of (take (suc i) (b ∷ rest)) ≡ 0 → holes_of (take (suc (suc i)) (b ∷ rest)) ≡ 0) →
        (if h then holes_of (take i rest) + 1 else holes_of (take (suc i) (b ∷ rest))) ≡ 0 →
        (if h then holes_of (take (suc i) rest) + 1 else holes_of (take (suc (suc i)) (b ∷ rest))) ≡ 0
    at true more none = absurd (omega (arith, none))
    at false more none = more none

-- a shorter text has no hole either
pub holes_of-fewer : (text : List ℕ) (i : ℕ) → holes_of (take (suc i) text) ≡ 0 → holes_of (take i text) ≡ 0
holes_of-fewer text zero none = refl
holes_of-fewer [] (suc i) none = refl
holes_of-fewer (a ∷ []) (suc i) none = only i
  where
    only : (i : ℕ) → holes_of (a ∷ take i []) ≡ 0
    only zero = refl
    only (suc i) = refl
holes_of-fewer (a ∷ b ∷ rest) (suc zero) none = refl
holes_of-fewer (a ∷ b ∷ rest) (suc (suc i)) none = at (is_hole a b) (holes_of-fewer (b ∷ rest) (suc i)) none
  where
    at : (h : Bool) → (holes_of (take (suc (suc i)) (b ∷ rest)) ≡ 0 → holes_of (take (suc i) (b ∷ rest)) ≡ 0) →
        (if h then holes_of (take (suc i) rest) + 1 else holes_of (take (suc (suc i)) (b ∷ rest))) ≡ 0 →
        (if h then holes_of (take i rest) + 1 else holes_of (take (suc i) (b ∷ rest))) ≡ 0
    at true fewer none = absurd (omega (arith, none))
    at false fewer none = fewer none

-- a text with a hole is longer than a beginning that has none
pub holes_of-within : (text : List ℕ) (n : ℕ) → 0 < holes_of text → holes_of (take n text) ≡ 0 → n < length text
holes_of-within text n some none = elim (cases_lt n (length text)) [ inl lt ↦ lt | inr ge ↦ absurd (contradiction (subst (λ (l : List ℕ). holes_of l ≡ 0) (take_all n text ge) none)) ]
  where
    contradiction : holes_of text ≡ 0 → ⊥
    contradiction is = omega (arith, some, is)

-- the first hole of the rest takes the next number
pub filled-next : (rest before after : List ℕ) (numbers : List ℕ) (i d : ℕ) → i < length numbers → holes_of before ≡ 0 → rest ≡ before ++ (37 ∷ 100 ∷ []) ++ after →
    filled rest (drop i numbers) ≡ (before ++ decimal (get_or numbers i d)) ++ filled after (drop (i + 1) numbers)
filled-next rest before after numbers i d lt none parts =
    let n = get_or numbers i d in
    let left : drop i numbers ≡ n ∷ drop (i + 1) numbers = rw add-one (drop-cons numbers i d lt) in
    let parts2 : rest ≡ before ++ (37 ∷ 100 ∷ after) = parts ∙ append_assoc before (37 ∷ 100 ∷ []) after in
    ap (λ (l : List ℕ). filled l (drop i numbers)) parts2 ∙ ap (λ (l : List ℕ). filled (before ++ (37 ∷ 100 ∷ after)) l) left
    ∙ filled-first before after n (drop (i + 1) numbers) none ∙ sym (append_assoc before (decimal n) (filled after (drop (i + 1) numbers)))

-- and one hole fewer is left
pub holes_of-next : (rest before after : List ℕ) (numbers : List ℕ) (i : ℕ) → i < length numbers → holes_of before ≡ 0 → rest ≡ before ++ (37 ∷ 100 ∷ []) ++ after →
    holes_of rest ≡ length (drop i numbers) → holes_of after ≡ length (drop (i + 1) numbers)
holes_of-next rest before after numbers i lt none parts left =
    let parts2 : rest ≡ before ++ (37 ∷ 100 ∷ after) = parts ∙ append_assoc before (37 ∷ 100 ∷ []) after in
    let one : holes_of rest ≡ holes_of after + 1 = ap (λ (l : List ℕ). holes_of l) parts2 ∙ holes_of-first before after none in
    omega (arith, one, left, length-drop i numbers, length-drop (i + 1) numbers)

pub holes_of-step : (text : List ℕ) (i : ℕ) → i + 1 < length text → holes_of (take (i + 1) text) ≡ 0 → (get_or text i 0 ≡ 37 → get_or text (i + 1) 0 ≡ 100 → ⊥) → holes_of (take (i + 1 + 1) text) ≡ 0
holes_of-step text i = simp add-one (holes_of-more text i)

-- where no number is left, nothing changes any more
pub filled-last : (rest numbers : List ℕ) (i : ℕ) → length numbers ≤ i → filled rest (drop i numbers) ≡ rest
filled-last rest numbers i ge = ap (λ (l : List ℕ). filled rest l) (drop_of_length-le numbers ge) ∙ filled-none rest
