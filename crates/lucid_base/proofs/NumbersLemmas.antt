-- Numbers in a list.
use Rattle.std.proofs.Common.{◌≡◌, ◌⊎◌, inl, inr, ℕ, List, [], ◌∷◌, ◌++◌, true, ◌||◌, nat_eq, refl, sym, ◌∙◌}
use Rattle.std.proofs.lemmas.Bool.{cases_eq, eq-eqb, ne_eqb, or_cases, or_left, or_right}
use Rattle.std.proofs.lemmas.List.Folds.{list_any-append}
use Rattle.lucid_base.specs.Numbers.{is_in}

pub nat_eq_swap : (a b : ℕ) → nat_eq a b ≡ nat_eq b a
nat_eq_swap a b = of (cases_eq a b)
  where
    of : (a ≡ b) ⊎ (a ≡ b → ⊥) → nat_eq a b ≡ nat_eq b a
    of (inl e) = eq-eqb a b e ∙ sym (eq-eqb b a (sym e))
    of (inr ne) = ne_eqb a b ne ∙ sym (ne_eqb b a (λ e. ne (sym e)))

pub is_in_append : (k : ℕ) (xs ys : List ℕ) → is_in k (xs ++ ys) ≡ (is_in k xs || is_in k ys)
is_in_append k xs ys = list_any-append (λ j. nat_eq j k) xs ys

pub in_first : (xs ys : List ℕ) (i : ℕ) → is_in i xs ≡ true → is_in i (xs ++ ys) ≡ true
in_first xs ys i h = is_in_append i xs ys ∙ or_left _ _ h

pub in_second : (xs ys : List ℕ) (i : ℕ) → is_in i ys ≡ true → is_in i (xs ++ ys) ≡ true
in_second xs ys i h = is_in_append i xs ys ∙ or_right _ _ h

pub in_either : (xs ys : List ℕ) (i : ℕ) → is_in i (xs ++ ys) ≡ true → (is_in i xs ≡ true) ⊎ (is_in i ys ≡ true)
in_either xs ys i h = or_cases _ _ (sym (is_in_append i xs ys) ∙ h)

pub itself_in : (i : ℕ) → is_in i (i ∷ []) ≡ true
itself_in i = or_left (nat_eq i i) _ (eq-eqb i i refl)
