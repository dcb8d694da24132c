-- Widths that are dealt out to their templates.
use Rattle.std.proofs.Common.{◌≡◌, ℕ, zero, suc, ◌+◌, ◌<◌, ◌⊎◌, List, [], ◌∷◌, ◌++◌, length, get_or, take, refl, sym, ◌∙◌, ap, subst, inl, inr, ⊎_elim, arith}
use Rattle.std.specs.Prelude.{slice_set}
use Rattle.std.specs.List.{Contains}
use Rattle.std.proofs.lemmas.List.{take_more}
use Rattle.std.proofs.lemmas.List.Elements.{Contains-append_cases, Contains-append_left, Contains-append_right}
use Rattle.lucid_size.specs.declared.step.Instance.{Instance}
use Rattle.lucid_size.specs.Widths.{AreDealt, IsRisingOf, row_in, widths_in}
use Rattle.lucid_size.proofs.Exists.{strictly, widths_all, widths_rise, widths_used}
use Rattle.lucid_size.proofs.Unique.{rises, same_list}

-- the row that rises with the widths of a template is the one row of these
pub row_is : (rows : List (List ℕ)) (found : List Instance) (k : ℕ) (dealt r : List ℕ) → AreDealt rows found → dealt ≡ row_in rows k → IsRisingOf dealt r → r ≡ widths_in found k
row_is rows found k dealt r d is rising =
    same_list r (widths_in found k) (rises r rising.rise) (rises (widths_in found k) (strictly (widths_in found k) (widths_rise found k)))
    (λ n h. widths_all found k n (d.only k n (subst (λ l. Contains l n) is (rising.only n h))))
    (λ n h. rising.has n (subst (λ l. Contains l n) (sym is) (d.all k n (widths_used found k n h))))

pub row_at : (rows : List (List ℕ)) (k : ℕ) (r : List ℕ) → k < length rows → r ≡ get_or rows k r → r ≡ row_in rows k
row_at [] k r within is = absurd (omega arith)
row_at (x ∷ rows) zero r within is = is
row_at (x ∷ rows) (suc k) r within is = row_at rows k r (omega arith) is

-- ---- rows with nothing in them

same_row : (rows : List (List ℕ)) (k : ℕ) → row_in (rows ++ [] ∷ []) k ≡ row_in rows k
same_row [] zero = refl
same_row [] (suc k) = refl
same_row (x ∷ rows) zero = refl
same_row (x ∷ rows) (suc k) = same_row rows k

pub one_row : (rows rows' : List (List ℕ)) → AreDealt rows [] → rows' ≡ rows ++ [] ∷ [] → AreDealt rows' []
one_row rows rows' d is = record {
  only = λ k n has. d.only k n (subst (λ l. Contains l n) (ap (λ l. row_in l k) is ∙ same_row rows k) has);
  all = λ k n has. absurd (let w = has.1 in omega arith);
}

-- ---- one width more

nothing : (n : ℕ) → Contains {X = ℕ} [] n → ⊥
nothing n has = let w = has.1 in omega arith

only_one : (w n : ℕ) → Contains (w ∷ []) n → w ≡ n
only_one w n (zero, within, is) = is
only_one w n (suc k, within, is) = absurd (omega arith)

last_in : (row : List ℕ) (w : ℕ) → Contains (row ++ w ∷ []) w
last_in row w = Contains-append_right row (w ∷ []) w (zero, omega arith, refl)

pub set_length : (rows : List (List ℕ)) (t : ℕ) (r : List ℕ) → length (slice_set rows t r) ≡ length rows
set_length [] t r = refl
set_length (x ∷ rows) zero r = refl
set_length (x ∷ rows) (suc t) r = ap suc (set_length rows t r)

set_only : (rows : List (List ℕ)) (t k n w : ℕ) (r : List ℕ) → t < length rows → r ≡ row_in rows t ++ w ∷ [] → Contains (row_in (slice_set rows t r) k) n → Contains (row_in rows k) n ⊎ ((t ≡ k) × (w ≡ n))
set_only [] t k n w r within is has = absurd (omega arith)
set_only (x ∷ rows) zero zero n w r within is has = ⊎_elim (λ h. inl h) (λ h. inr (refl, only_one w n h)) (Contains-append_cases x (w ∷ []) n (subst (λ l. Contains l n) is has))
set_only (x ∷ rows) zero (suc k) n w r within is has = inl has
set_only (x ∷ rows) (suc t) zero n w r within is has = inl has
set_only (x ∷ rows) (suc t) (suc k) n w r within is has = ⊎_elim (λ h. inl h) (λ h. inr (ap suc h.0, h.1)) (set_only rows t k n w r (omega arith) is has)

set_keeps : (rows : List (List ℕ)) (t k n w : ℕ) (r : List ℕ) → t < length rows → r ≡ row_in rows t ++ w ∷ [] → Contains (row_in rows k) n → Contains (row_in (slice_set rows t r) k) n
set_keeps [] t k n w r within is has = absurd (omega arith)
set_keeps (x ∷ rows) zero zero n w r within is has = subst (λ l. Contains l n) (sym is) (Contains-append_left x (w ∷ []) n has)
set_keeps (x ∷ rows) zero (suc k) n w r within is has = has
set_keeps (x ∷ rows) (suc t) zero n w r within is has = has
set_keeps (x ∷ rows) (suc t) (suc k) n w r within is has = set_keeps rows t k n w r (omega arith) is has

set_new : (rows : List (List ℕ)) (t w : ℕ) (r : List ℕ) → t < length rows → r ≡ row_in rows t ++ w ∷ [] → Contains (row_in (slice_set rows t r) t) w
set_new [] t w r within is = absurd (omega arith)
set_new (x ∷ rows) zero w r within is = subst (λ l. Contains l w) (sym is) (last_in x w)
set_new (x ∷ rows) (suc t) w r within is = set_new rows t w r (omega arith) is

one_instance : (i j : Instance) → Contains (i ∷ []) j → i ≡ j
one_instance i j (zero, within, is) = is
one_instance i j (suc k, within, is) = absurd (omega arith)

pub deal_turn : (rows : List (List ℕ)) (found : List Instance) (at : ℕ) (d : Instance) (row r : List ℕ) → at < length found → (get_or found at d).template < length rows →
    row ≡ get_or rows (get_or found at d).template row → r ≡ row ++ (get_or found at d).width ∷ [] → AreDealt rows (take at found) → AreDealt (slice_set rows (get_or found at d).template r) (take (at + 1) found)
deal_turn rows found at d row r within low row_is' more dealt =
    let i = get_or found at d in
    let taken : take (at + 1) found ≡ take at found ++ i ∷ [] = take_more found at d within in
    let is : r ≡ row_in rows i.template ++ i.width ∷ [] = more ∙ ap (λ l. l ++ i.width ∷ []) (row_at rows i.template row low row_is') in
    record {
      only = λ k n has. subst (λ l. Contains l (record { template = k; width = n })) (sym taken)
          (⊎_elim
          (λ old. Contains-append_left (take at found) (i ∷ []) (record { template = k; width = n }) (dealt.only k n old))
          (λ new. Contains-append_right (take at found) (i ∷ []) (record { template = k; width = n }) (zero, omega arith, λ z. record { template = new.0 z; width = new.1 z }))
          (set_only rows i.template k n i.width r low is has));
      all = λ k n has. ⊎_elim
          (λ old. set_keeps rows i.template k n i.width r low is (dealt.all k n old))
          (λ new.
          let same = one_instance i (record { template = k; width = n }) new in
          subst (λ j. Contains (row_in (slice_set rows i.template r) j.template) j.width) same (set_new rows i.template i.width r low is))
          (Contains-append_cases (take at found) (i ∷ []) (record { template = k; width = n }) (subst (λ l. Contains l (record { template = k; width = n })) taken has));
    }
