-- The lines of cells and arrays, one after another.
use Rattle.std.proofs.Common.{◌≡◌, ℕ, zero, suc, ◌+◌, ◌-◌, ◌<◌, ◌≤◌, List, [], ◌∷◌, ◌++◌, length, get_or, drop, ◌∙◌, sym, ap, drop-cons, drop_of_length-le, add-one, arith}
use Rattle.lucid_base.specs.declared.array.ArrayDef.{ArrayDef}
use Rattle.lucid_base.specs.Cells.{cell_at}
use Rattle.lucid_log.specs.Cells.{shown_line, lines_from, arrays_from}

-- one more cell
pub lines_from-next : (switch : ℕ) (cells : List (List ℕ)) (array : ℕ) (name : List ℕ) (size cell value : ℕ) → cell < size → value ≡ cell_at cells array cell →
    lines_from switch cells array name cell (size - cell) ≡ shown_line switch name cell value ++ lines_from switch cells array name (cell + 1) (size - (cell + 1))
unfolding lines_from
lines_from-next switch cells array name size cell value lt is =
    let turn : size - cell ≡ suc (size - (cell + 1)) = omega arith in
    ap (lines_from switch cells array name cell) turn
    ∙ ap (λ (v : ℕ). shown_line switch name cell v ++ lines_from switch cells array name (cell + 1) (size - (cell + 1))) (sym is)

-- no more cells
pub lines_from-none : (switch : ℕ) (cells : List (List ℕ)) (array : ℕ) (name : List ℕ) (size cell : ℕ) → size ≤ cell → lines_from switch cells array name cell (size - cell) ≡ []
unfolding lines_from
lines_from-none switch cells array name size cell le =
    let none : size - cell ≡ zero = omega arith in
    ap (lines_from switch cells array name cell) none

-- one more array
pub arrays_from-next : (switch : ℕ) (cells : List (List ℕ)) (arrays : List ArrayDef) (i : ℕ) (a : ArrayDef) (name : List ℕ) → i < length arrays → a ≡ get_or arrays i a → name ≡ a.name →
    arrays_from switch cells i (drop i arrays) ≡ lines_from switch cells i name 0 a.size ++ arrays_from switch cells (i + 1) (drop (i + 1) arrays)
arrays_from-next switch cells arrays i a name lt is named =
    let step : drop i arrays ≡ get_or arrays i a ∷ drop (i + 1) arrays = rw add-one (drop-cons arrays i a lt) in
    ap (λ (l : List ArrayDef). arrays_from switch cells i l) (step ∙ ap (λ (b : ArrayDef). b ∷ drop (i + 1) arrays) (sym is))
    ∙ ap (λ (l : List ℕ). lines_from switch cells i l 0 a.size ++ arrays_from switch cells (i + 1) (drop (i + 1) arrays)) (sym named)

-- no more arrays
pub arrays_from-none : (switch : ℕ) (cells : List (List ℕ)) (arrays : List ArrayDef) (i : ℕ) → length arrays ≤ i → arrays_from switch cells i (drop i arrays) ≡ []
arrays_from-none switch cells arrays i le = ap (λ (l : List ArrayDef). arrays_from switch cells i l) (drop_of_length-le arrays le)
