-- How often numbers occur in a list.
use Rattle.std.proofs.Common.{◌≡◌, ◌⊎◌, inl, inr, ℕ, ◌+◌, ◌<◌, List, [], ◌∷◌, ◌++◌, Bool, true, false, cond, sym, ap, ◌∙◌, arith, nat_eq}
use Rattle.std.proofs.lemmas.Bool.{cases_Bool, eqb-false, eqb-true, eq-eqb, ne_eqb, or_left, or_right}
use Rattle.std.proofs.lemmas.List.Sums.{sum_by-append, sum_by-cons}
use Rattle.lucid_base.specs.Numbers.{is_in}
use Rattle.lucid_core.specs.Uses.{times_in}

pub times-append : (xs ys : List ℕ) (x : ℕ) → times_in (xs ++ ys) x ≡ times_in xs x + times_in ys x
times-append xs ys x = sum_by-append _ xs ys

pub times-cons : (y : ℕ) (ys : List ℕ) (x : ℕ) → times_in (y ∷ ys) x ≡ cond (nat_eq x y) 1 0 + times_in ys x
times-cons y ys x = sum_by-cons _ y ys

pub times-none : (y : ℕ) (ys : List ℕ) (x : ℕ) → (x ≡ y → ⊥) → times_in (y ∷ ys) x ≡ times_in ys x
times-none y ys x ne = times-cons y ys x ∙ ap (λ (b : Bool). cond b 1 0 + times_in ys x) (ne_eqb x y ne) ∙ (let z : 0 + times_in ys x ≡ times_in ys x = omega arith in z)

pub times-one : (y : ℕ) (ys : List ℕ) (x : ℕ) → x ≡ y → times_in (y ∷ ys) x ≡ 1 + times_in ys x
times-one y ys x e = times-cons y ys x ∙ ap (λ (b : Bool). cond b 1 0 + times_in ys x) (eq-eqb x y e)

-- A number that occurs at least once is in the list, and the converse.
pub is_in-from : (xs : List ℕ) (x : ℕ) → 0 < times_in xs x → is_in x xs ≡ true
is_in-from [] x h = absurd (omega arith)
is_in-from (y ∷ ys) x h = either (cases_Bool (nat_eq y x)) (is_in-from ys x)
  where
    either : (nat_eq y x ≡ true) ⊎ (nat_eq y x ≡ false) → (0 < times_in ys x → is_in x ys ≡ true) → is_in x (y ∷ ys) ≡ true
    either (inl e) rest = or_left _ _ e
    either (inr e) rest = or_right _ _ (rest (let n = times-none y ys x (λ q. eqb-false y x e (sym q)) in omega arith))

pub in-times : (xs : List ℕ) (x : ℕ) → is_in x xs ≡ true → 0 < times_in xs x
in-times [] x h = absurd (cc)
in-times (y ∷ ys) x h = either (cases_Bool (nat_eq y x)) (in-times ys x)
  where
    either : (nat_eq y x ≡ true) ⊎ (nat_eq y x ≡ false) → (is_in x ys ≡ true → 0 < times_in ys x) → 0 < times_in (y ∷ ys) x
    either (inl e) rest = let n = times-one y ys x (sym (eqb-true y x e)) in omega arith
    either (inr e) rest = let n = times-cons y ys x in let more : 0 < times_in ys x = rest (cc) in omega arith
