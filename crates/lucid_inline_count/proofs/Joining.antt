-- Counting the locals that are held and named, name after name.
use Rattle.std.proofs.Common.{◌≡◌, ◌⊎◌, inl, inr, ℕ, zero, suc, ◌+◌, ◌<◌, List, [], ◌∷◌, Bool, true, false, if◌then◌else◌, ◌&&◌, ◌||◌, length, refl, sym, ap, ap₂, subst, ◌∙◌, arith, slice_index_or, slice_set}
use Rattle.std.proofs.lemmas.Bool.{cases_eq, eq-eqb, ne_eqb}
use Rattle.std.proofs.lemmas.Grind.{get_or-set_at}
use Rattle.std.proofs.lemmas.List.{get_or-set_other, length-set}
use Rattle.lucid_core.specs.Length.{count_below}
use Rattle.lucid_base.specs.Numbers.{is_in}
use Rattle.lucid_inline_count.specs.Found.{joined}

pub count_alike : (n : ℕ) (f g : ℕ → Bool) → ((k : ℕ) → k < n → f k ≡ g k) → count_below n f ≡ count_below n g
count_alike zero f g h = refl
count_alike (suc n) f g h = ap₂ (λ (a : ℕ) (b : Bool). a + (if b then 1 else 0)) (count_alike n f g (λ k l. h k (omega arith))) (h n (omega arith))

-- One more at x alone.
count_one : (n x : ℕ) (f g : ℕ → Bool) → x < n → f x ≡ true → g x ≡ false → ((k : ℕ) → k < n → (k ≡ x → ⊥) → f k ≡ g k) → count_below n f ≡ 1 + count_below n g
count_one zero x f g h a b same = absurd (omega arith)
count_one (suc n) x f g h a b same = of (cases_eq x n) (λ l. count_one n x f g l a b (λ k m ne. same k (omega arith) ne))
  where
    of : (x ≡ n) ⊎ (x ≡ n → ⊥) → (x < n → count_below n f ≡ 1 + count_below n g) → count_below n f + (if f n then 1 else 0) ≡ 1 + (count_below n g + (if g n then 1 else 0))
    of (inl e) rest =
        let c = count_alike n f g (λ k l. same k (omega arith) (λ q. absurd (omega arith))) in
        let fn : f n ≡ true = subst (λ (k : ℕ). f k ≡ true) e a in
        let gn : g n ≡ false = subst (λ (k : ℕ). g k ≡ false) e b in
        ap₂ (λ (m : ℕ) (t : Bool). m + (if t then 1 else 0)) c fn ∙ (let z : count_below n g + 1 ≡ 1 + (count_below n g + 0) = omega arith in z) ∙ ap (λ (t : Bool). 1 + (count_below n g + (if t then 1 else 0))) (sym gn)
    of (inr ne) rest =
        let l : x < n = omega (arith, ne) in
        let c = rest l in
        let e : f n ≡ g n = same n (omega arith) (λ q. absurd (omega arith)) in
        ap₂ (λ (m : ℕ) (t : Bool). m + (if t then 1 else 0)) c e ∙ (let z : 1 + count_below n g + (if g n then 1 else 0) ≡ 1 + (count_below n g + (if g n then 1 else 0)) = omega arith in z)

pub there : (held : List Bool) (x : ℕ) → slice_index_or held x false ≡ true → x < length held
there [] x h = absurd (cc)
there (b ∷ held) zero h = omega arith
there (b ∷ held) (suc x) h = let rest = there held x h in omega arith

none_counted : (n : ℕ) (f : ℕ → Bool) → ((k : ℕ) → f k ≡ false) → count_below n f ≡ 0
none_counted zero f h = refl
none_counted (suc n) f h = ap₂ (λ (a : ℕ) (b : Bool). a + (if b then 1 else 0)) (none_counted n f h) (h n)

pub joined_none : (held : List Bool) → joined held [] ≡ 0
joined_none held = none_counted (length held) _ (λ k. and_false (slice_index_or held k false))
  where
    and_false : (b : Bool) → (b && false) ≡ false
    and_false true = refl
    and_false false = refl

-- A local that is held counts once.
pub joined_more : (held : List Bool) (x : ℕ) (names : List ℕ) → slice_index_or held x false ≡ true → joined held (x ∷ names) ≡ 1 + joined (slice_set held x false) names
joined_more held x names e =
    let l = there held x e in
    let long = length-set held x false in
    count_one (length held) x (λ i. slice_index_or held i false && is_in i (x ∷ names)) (λ i. slice_index_or (slice_set held x false) i false && is_in i names) l
    (ap₂ (λ (a b : Bool). a && (b || is_in x names)) e (eq-eqb x x refl)) (ap (λ (b : Bool). b && is_in x names) (get_or-set_at held x x false false refl l))
    (λ k m ne. ap₂ (λ (a b : Bool). a && b) (sym (get_or-set_other held x k false false ne)) (ap (λ (b : Bool). b || is_in k names) (ne_eqb x k (λ q. ne (sym q)))))
    ∙ ap (λ (n : ℕ). 1 + count_below n (λ i. slice_index_or (slice_set held x false) i false && is_in i names)) (sym long)

pub joined_less : (held : List Bool) (x : ℕ) (names : List ℕ) → slice_index_or held x false ≡ false → joined held (x ∷ names) ≡ joined held names
joined_less held x names e = count_alike (length held) (λ i. slice_index_or held i false && is_in i (x ∷ names)) (λ i. slice_index_or held i false && is_in i names) (λ k l. here k (cases_eq k x))
  where
    here : (k : ℕ) → (k ≡ x) ⊎ (k ≡ x → ⊥) → (slice_index_or held k false && is_in k (x ∷ names)) ≡ (slice_index_or held k false && is_in k names)
    here k (inl q) =
        let gone : slice_index_or held k false ≡ false = ap (λ (j : ℕ). slice_index_or held j false) q ∙ e in
        ap (λ (b : Bool). b && is_in k (x ∷ names)) gone ∙ sym (ap (λ (b : Bool). b && is_in k names) gone)
    here k (inr q) = ap (λ (b : Bool). slice_index_or held k false && (b || is_in k names)) (ne_eqb x k (λ e. q (sym e)))
