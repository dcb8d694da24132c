-- How often the numbers from some number on occur.
use Rattle.std.proofs.Common.{◌≡◌, ◌⊎◌, inl, inr, ℕ, zero, suc, ◌+◌, ◌<◌, ◌≤◌, List, [], ◌∷◌, true, drop, length, refl, ap, ◌∙◌, arith}
use Rattle.std.proofs.lemmas.Bool.{and_from, and_parts, cases_eq}
use Rattle.lucid_base.specs.Numbers.{is_in}
use Rattle.lucid_core.specs.Numbers.{are_in}
use Rattle.lucid_core.specs.Uses.{times_in}
use Rattle.lucid_core_laws.proofs.Times.{times-cons, times-none, times-one}
use Rattle.lucid_inline_spec.proofs.Numbered.{numbers_of}

-- The numbers from b on: each once.
pub numbers_below : {A : Type 0} (xs : List A) (b x : ℕ) → x < b → times_in (numbers_of b xs) x ≡ 0
numbers_below [] b x h = refl
numbers_below (y ∷ xs) b x h = times-none b (numbers_of (b + 1) xs) x (λ e. absurd (omega arith)) ∙ numbers_below xs (b + 1) x (omega arith)

pub numbers_above : {A : Type 0} (xs : List A) (b x : ℕ) → b + length xs ≤ x → times_in (numbers_of b xs) x ≡ 0
numbers_above [] b x h = refl
numbers_above (y ∷ xs) b x h = times-none b (numbers_of (b + 1) xs) x (λ e. absurd (omega arith)) ∙ numbers_above xs (b + 1) x (omega arith)

pub numbers_there : {A : Type 0} (xs : List A) (b x : ℕ) → b ≤ x → x < b + length xs → 0 < times_in (numbers_of b xs) x
numbers_there [] b x h k = absurd (omega arith)
numbers_there {A = A} (y ∷ xs) b x h k = either (cases_eq x b) (numbers_there xs (b + 1) x)
  where
    either : (x ≡ b) ⊎ (x ≡ b → ⊥) → (b + 1 ≤ x → x < b + 1 + length xs → 0 < times_in (numbers_of (b + 1) xs) x) → 0 < times_in (numbers_of b (y ∷ xs)) x
    either (inl e) rest = let q = times-one b (numbers_of (b + 1) xs) x e in omega arith
    either (inr ne) rest = let more = rest (omega (arith, ne)) (omega arith) in let q = times-cons b (numbers_of (b + 1) xs) x in omega arith

-- Of the numbers from b on, the first m left out.
pub dropped_there : {A : Type 0} (m : ℕ) (xs : List A) (b : ℕ) (known : List ℕ) → are_in known (drop m (numbers_of b xs)) ≡ true → (i : ℕ) → m ≤ i → i < length xs → is_in (b + i) known ≡ true
dropped_there m [] b known h i l u = absurd (omega arith)
dropped_there zero (x ∷ xs) b known h zero l u = let z : b + 0 ≡ b = omega arith in ap (λ (n : ℕ). is_in n known) z ∙ (and_parts _ _ h).0
dropped_there zero (x ∷ xs) b known h (suc i) l u = let e : b + suc i ≡ b + 1 + i = omega arith in ap (λ (n : ℕ). is_in n known) e ∙ dropped_there 0 xs (b + 1) known (and_parts _ _ h).1 i (omega arith) (omega arith)
dropped_there (suc m) (x ∷ xs) b known h zero l u = absurd (omega arith)
dropped_there (suc m) (x ∷ xs) b known h (suc i) l u = let e : b + suc i ≡ b + 1 + i = omega arith in ap (λ (n : ℕ). is_in n known) e ∙ dropped_there m xs (b + 1) known h i (omega arith) (omega arith)

pub dropped_from : {A : Type 0} (m : ℕ) (xs : List A) (b : ℕ) (known : List ℕ) → ((i : ℕ) → m ≤ i → i < length xs → is_in (b + i) known ≡ true) → are_in known (drop m (numbers_of b xs)) ≡ true
dropped_from zero [] b known h = refl
dropped_from (suc m) [] b known h = refl
dropped_from zero (x ∷ xs) b known h = let z : b ≡ b + 0 = omega arith in and_from _ _ (ap (λ (n : ℕ). is_in n known) z ∙ h 0 (omega arith) (omega arith))
    (dropped_from 0 xs (b + 1) known (λ i l u. let e : b + 1 + i ≡ b + suc i = omega arith in ap (λ (n : ℕ). is_in n known) e ∙ h (suc i) (omega arith) (omega arith)))
dropped_from (suc m) (x ∷ xs) b known h = dropped_from m xs (b + 1) known (λ i l u. let e : b + 1 + i ≡ b + suc i = omega arith in ap (λ (n : ℕ). is_in n known) e ∙ h (suc i) (omega arith) (omega arith))
