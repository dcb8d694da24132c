-- Rows, copied.
use Rattle.std.proofs.Common.{◌≡◌, ℕ, zero, suc, ◌+◌, ◌<◌, ◌≤◌, List, [], ◌∷◌, ◌++◌, None, Some, Bool, true, false, ◌||◌, if◌then◌else◌, drop, is_some, length, nat_eq, slice_get, slice_index, slice_set, take, refl, sym, ◌∙◌, ap, ap₂, subst, add-one, drop_of_length-le, get_or, arith}
use Rattle.std.proofs.Math.Nat.{mod-eq_of_lt}
use Rattle.std.proofs.lemmas.List.{set_past}
use Rattle.std.proofs.lemmas.Bool.{eq-eqb, eqb-true, true≢false}
use Rattle.std.specs.Option.{option_and_then}
use Rattle.lucid_base.specs.Cells.{cell_at, place_of, row_of}
use Rattle.lucid_pipe.specs.Pipe.{PipeParts, sizes}
use Rattle.lucid_pipe.specs.Rows.{Cells}
use Rattle.lucid_tables.specs.Numbers.{is_in}
use Rattle.lucid_tables.specs.declared.stage.StageCode.{StageCode}
use Rattle.lucid_snap.specs.Snap.{Follows, SnapParts, arrays_of, free_first}
use Rattle.lucid_snap.proofs.Oldest.{Slots}
use Rattle.lucid_snap.proofs.Passing.{whole_is}

-- ---- free slots

pub free_start : (slots : Slots) → 0 + free_first (drop 0 slots) ≡ free_first slots
free_start slots = omega arith

pub free_next : (slots : Slots) (k : ℕ) → k < length slots → is_some (option_and_then (λ slot. slot) (slice_get slots k)) ≡ false → k + free_first (drop k slots) ≡ free_first slots → k + 1 + free_first (drop (k + 1) slots) ≡ free_first slots
free_next slots k lt none e = omega (arith, e, step slots k lt none)
  where
    step : (l : Slots) (i : ℕ) → i < length l → is_some (option_and_then (λ slot. slot) (slice_get l i)) ≡ false → free_first (drop i l) ≡ suc (free_first (drop (i + 1) l))
    step [] i lt none = absurd (omega (arith, lt))
    step (None ∷ l) zero lt none = refl
    step (Some p ∷ l) zero lt none = cc
    step (x ∷ l) (suc i) lt none = step l i (omega (arith, lt)) none ∙ ap (λ (j : ℕ). suc (free_first (drop j (x ∷ l)))) more
      where
        more : suc (i + 1) ≡ suc i + 1
        more = omega arith

pub free_found : (slots : Slots) (k : ℕ) → is_some (option_and_then (λ slot. slot) (slice_get slots k)) ≡ true → k + free_first (drop k slots) ≡ free_first slots → k ≡ free_first slots
free_found slots k some e = omega (arith, e, step slots k some)
  where
    step : (l : Slots) (i : ℕ) → is_some (option_and_then (λ slot. slot) (slice_get l i)) ≡ true → free_first (drop i l) ≡ 0
    step [] i some = cc
    step (None ∷ l) zero some = cc
    step (Some p ∷ l) zero some = refl
    step (x ∷ l) (suc i) some = step l i some

pub free_end : (slots : Slots) (k : ℕ) → length slots ≤ k → k + free_first (drop k slots) ≡ free_first slots → k ≡ free_first slots
free_end slots k le e = omega (arith, e, step slots k le)
  where
    step : (l : Slots) (i : ℕ) → length l ≤ i → free_first (drop i l) ≡ 0
    step [] zero le = refl
    step [] (suc i) le = refl
    step (x ∷ l) zero le = absurd (omega (arith, le))
    step (x ∷ l) (suc i) le = step l i (omega (arith, le))

-- ---- one row

pub fill_next : (row want : List ℕ) (at v : ℕ) → at < length want → length row ≡ length want → v ≡ slice_index want (place_of want at) → take at row ≡ take at want → take (at + 1) (slice_set row at v) ≡ take (at + 1) want
fill_next row want at v lt long is so =
    ap (λ (n : ℕ). take n (slice_set row at v)) (add-one at) ∙ step row want at v lt long (is ∙ ap (slice_index want) (mod-eq_of_lt lt)) so ∙ ap (λ (n : ℕ). take n want) (sym (add-one at))
  where
    step : (row want : List ℕ) (at v : ℕ) → at < length want → length row ≡ length want → v ≡ slice_index want at → take at row ≡ take at want → take (suc at) (slice_set row at v) ≡ take (suc at) want
    step row [] at v lt long is so = absurd (omega (arith, lt))
    step [] (w ∷ want) at v lt long is so = absurd (omega (arith, long))
    step (r ∷ row) (w ∷ want) zero v lt long is so = ap (λ (x : ℕ). x ∷ []) is
    step (r ∷ row) (w ∷ want) (suc at) v lt long is so =
        let head : r ≡ w = cc in
        let tail : take at row ≡ take at want = cc in
        ap₂ (λ (x : ℕ) (l : List ℕ). x ∷ l) head (step row want at v (omega (arith, lt)) (omega (arith, long)) is tail)

pub fill_all : (row want : List ℕ) (at : ℕ) → length row ≤ at → length row ≡ length want → take at row ≡ take at want → row ≡ want
fill_all [] [] at le long so = refl
fill_all [] (w ∷ want) at le long so = absurd (omega (arith, long))
fill_all (r ∷ row) [] at le long so = absurd (omega (arith, long))
fill_all (r ∷ row) (w ∷ want) zero le long so = absurd (omega (arith, le))
fill_all (r ∷ row) (w ∷ want) (suc at) le long so =
    let head : r ≡ w = cc in
    let tail : take at row ≡ take at want = cc in
    ap₂ (λ (x : ℕ) (l : List ℕ). x ∷ l) head (fill_all row want at (omega (arith, le)) (omega (arith, long)) tail)

-- ---- rows

pub set_none : (copies : Cells) (a : ℕ) (row : List ℕ) → length copies ≤ a → copies ≡ slice_set copies a row
set_none copies a row le = sym (set_past copies a row le)

row_size : (c d : Cells) (g : ℕ) → sizes c ≡ sizes d → length (row_of c g) ≡ length (row_of d g)
row_size [] [] g e = refl
row_size [] (y ∷ d) g e = cc
row_size (x ∷ c) [] g e = cc
row_size (x ∷ c) (y ∷ d) zero e = let here : length x ≡ length y = cc in here
row_size (x ∷ c) (y ∷ d) (suc g) e = let rest : sizes c ≡ sizes d = cc in row_size c d g rest

pub row_sized : (c d e : Cells) (g : ℕ) → sizes c ≡ sizes d → sizes d ≡ sizes e → length (row_of c g) ≡ length (row_of e g)
row_sized c d e g one two = row_size c e g (one ∙ two)

set_here : (c d : Cells) (a : ℕ) → sizes c ≡ sizes d → row_of (slice_set c a (row_of d a)) a ≡ row_of d a
set_here [] [] a e = refl
set_here [] (y ∷ d) a e = cc
set_here (x ∷ c) [] a e = cc
set_here (x ∷ c) (y ∷ d) zero e = refl
set_here (x ∷ c) (y ∷ d) (suc a) e = let rest : sizes c ≡ sizes d = cc in set_here c d a rest

set_other : (c : Cells) (a g : ℕ) (row : List ℕ) → ((a ≡ g) → ⊥) → row_of (slice_set c a row) g ≡ row_of c g
set_other [] a g row other = refl
set_other (x ∷ c) zero zero row other = absurd (other refl)
set_other (x ∷ c) zero (suc g) row other = refl
set_other (x ∷ c) (suc a) zero row other = refl
set_other (x ∷ c) (suc a) (suc g) row other = set_other c a g row (λ e. other (ap suc e))

set_same : (c d : Cells) (a : ℕ) → sizes c ≡ sizes d → sizes (slice_set c a (row_of d a)) ≡ sizes c
set_same [] d a e = refl
set_same (x ∷ c) [] a e = cc
set_same (x ∷ c) (y ∷ d) zero e = let here : length x ≡ length y = cc in ap (λ (n : ℕ). n ∷ sizes c) (sym here)
set_same (x ∷ c) (y ∷ d) (suc a) e = let rest : sizes c ≡ sizes d = cc in ap (λ (l : List ℕ). length x ∷ l) (set_same c d a rest)

-- some arrays are copied, and the others are left
pub record Copying (cells old now : Cells) (arrays left : List ℕ) : Type 0 where
  pub sized : sizes now ≡ sizes old
  pub rows : (g : ℕ) → (if is_in g left then row_of cells g else row_of now g) ≡ (if is_in g arrays then row_of cells g else row_of old g)

copying_by : (cells old now new : Cells) (arrays left : List ℕ) (a : ℕ) → sizes old ≡ sizes cells → new ≡ slice_set now a (row_of cells a) → Copying cells old now arrays (a ∷ left) → Copying cells old new arrays left
copying_by cells old now new arrays left a same is c = record {
  sized = ap sizes is ∙ set_same now cells a (c.sized ∙ same) ∙ c.sized;
  rows = λ g. ap (λ (m : Cells). if is_in g left then row_of cells g else row_of m g) is ∙ by g (nat_eq a g) refl ∙ c.rows g;
}
  where
    either : (b : Bool) (r s : List ℕ) → r ≡ s → (if b then s else r) ≡ s
    either true r s h = refl
    either false r s h = h

    by : (g : ℕ) (b : Bool) → nat_eq a g ≡ b → (if is_in g left then row_of cells g else row_of (slice_set now a (row_of cells a)) g) ≡ (if is_in g (a ∷ left) then row_of cells g else row_of now g)
    by g true e =
        let eq : a ≡ g = eqb-true a g e in
        let here : row_of (slice_set now a (row_of cells a)) g ≡ row_of cells g = subst (λ (h : ℕ). row_of (slice_set now a (row_of cells a)) h ≡ row_of cells h) eq (set_here now cells a (c.sized ∙ same)) in
        either (is_in g left) (row_of (slice_set now a (row_of cells a)) g) (row_of cells g) here ∙ sym (ap (λ (b : Bool). if b || is_in g left then row_of cells g else row_of now g) e)
    by g false e =
        ap (λ (r : List ℕ). if is_in g left then row_of cells g else r) (set_other now a g (row_of cells a) (λ eq. absurd (true≢false (sym (eq-eqb a g eq) ∙ e))))
        ∙ sym (ap (λ (b : Bool). if b || is_in g left then row_of cells g else row_of now g) e)

pub copying_next : (cells old now new : Cells) (arrays : List ℕ) (i : ℕ) → i < length arrays → sizes old ≡ sizes cells → new ≡ slice_set now (slice_index arrays i) (row_of cells (slice_index arrays i)) → Copying cells old now arrays (drop i arrays) → Copying cells old new arrays (drop (i + 1) arrays)
copying_next cells old now new arrays i lt same is c =
    copying_by cells old now new arrays (drop (i + 1) arrays) (slice_index arrays i) same is (subst (Copying cells old now arrays) (cut arrays i lt) c)
  where
    cut : (l : List ℕ) (j : ℕ) → j < length l → drop j l ≡ slice_index l j ∷ drop (j + 1) l
    cut [] j lt = absurd (omega (arith, lt))
    cut (x ∷ l) zero lt = refl
    cut (x ∷ l) (suc j) lt = cut l j (omega (arith, lt)) ∙ ap (λ (n : ℕ). slice_index l j ∷ drop n (x ∷ l)) more
      where
        more : suc (j + 1) ≡ suc j + 1
        more = omega arith

pub arrays_next : (stages : List StageCode) (i : ℕ) (s : StageCode) → i < length stages → s ≡ get_or stages i s → arrays_of (take i stages) ++ s.arrays ∷ [] ≡ arrays_of (take (i + 1) stages)
arrays_next [] i s lt is = absurd (omega (arith, lt))
arrays_next (x ∷ stages) zero s lt is = ap (λ (t : StageCode). t.arrays ∷ []) is
arrays_next (x ∷ stages) (suc i) s lt is = ap (λ (l : List (List ℕ)). x.arrays ∷ l) (arrays_next stages i s (omega (arith, lt)) is) ∙ ap (λ (n : ℕ). arrays_of (take n (x ∷ stages))) more
  where
    more : suc (i + 1) ≡ suc i + 1
    more = omega arith

pub copied_all : (cells old now : Cells) (arrays : List ℕ) (i : ℕ) → length arrays ≤ i → Copying cells old now arrays (drop i arrays) → (g : ℕ) → row_of now g ≡ (if is_in g arrays then row_of cells g else row_of old g)
copied_all cells old now arrays i le c g = ap (λ (l : List ℕ). if is_in g l then row_of cells g else row_of now g) (sym (drop_of_length-le arrays le)) ∙ c.rows g

pub got : (snap : SnapParts) (pipe : PipeParts) (cells : Cells) (array cell value : ℕ) → value ≡ cell_at snap.copies array cell → Follows snap pipe cells → snap.old ≡ 0 → value ≡ cell_at cells array cell
got snap pipe cells array cell value is f whole = is ∙ ap (λ (row : List ℕ). slice_index row (place_of row cell)) (whole_is snap pipe cells array f whole)
