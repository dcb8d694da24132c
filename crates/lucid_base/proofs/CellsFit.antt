-- Cells that fit their arrays stay so where a number within the width is written.
use Rattle.std.proofs.Common.{◌≡◌, ℕ, zero, suc, ◌^◌, List, [], ◌∷◌, true, length, map, Some, refl, ap, subst, ◌∙◌, nat_eq, nat_lt, pow_pos, replicate, slice_get, slice_set}
use Rattle.std.specs.List.{list_all}
use Rattle.std.proofs.lemmas.Bool.{and_from, and_parts, eq-eqb, lt-ltb}
use Rattle.std.proofs.lemmas.List.{length-replicate, length-set}
use Rattle.lucid_base.specs.declared.array.ArrayDef.{ArrayDef}
use Rattle.lucid_base.specs.Cells.{place_of, row_fits, rows_fit, with_cell, zero_cells}

values-set : (w : ℕ) (row : List ℕ) (j v : ℕ) → nat_lt v (2 ^ w) ≡ true → list_all (λ x. nat_lt x (2 ^ w)) row ≡ true → list_all (λ x. nat_lt x (2 ^ w)) (slice_set row j v) ≡ true
values-set w [] j v small fit = fit
values-set w (x ∷ xs) zero v small fit = and_from _ _ small (and_parts _ _ fit).1
values-set w (x ∷ xs) (suc j) v small fit = let each = and_parts _ _ fit in and_from _ _ each.0 (values-set w xs j v small each.1)

row-set : (a : ArrayDef) (row : List ℕ) (j v : ℕ) → nat_lt v (2 ^ a.width) ≡ true → row_fits a row ≡ true → row_fits a (slice_set row j v) ≡ true
row-set a row j v small fit =
    let each = and_parts _ _ fit in
    and_from _ _ (ap (λ n. nat_eq n a.size) (length-set row j v) ∙ each.0) (values-set a.width row j v small each.1)

width_is : (v w : ℕ) → Some v ≡ Some w → w ≡ v
width_is v w h = cc

-- A write of a number within the width keeps the cells of the arrays fit.
pub rows-set : (arrays : List ArrayDef) (rows : List (List ℕ)) (a i w v : ℕ) → slice_get (map (λ d. d.width) arrays) a ≡ Some w → nat_lt v (2 ^ w) ≡ true → rows_fit arrays rows ≡ true → rows_fit arrays (with_cell rows a i v) ≡ true
rows-set [] rows a i w v there small fit = absurd (cc)
rows-set (d ∷ ds) [] a i w v there small fit = absurd (cc)
rows-set (d ∷ ds) (row ∷ rows) zero i w v there small fit =
    let each = and_parts _ _ fit in
    let e = width_is d.width w there in
    and_from _ _ (row-set d row (place_of row i) v (subst (λ n. nat_lt v (2 ^ n) ≡ true) e small) each.0) each.1
rows-set (d ∷ ds) (row ∷ rows) (suc a) i w v there small fit = let each = and_parts _ _ fit in and_from _ _ each.0 (rows-set ds rows a i w v there small each.1)

zeros_fit : (w n : ℕ) → list_all (λ x. nat_lt x (2 ^ w)) (replicate n 0) ≡ true
zeros_fit w zero = refl
zeros_fit w (suc n) = and_from _ _ (lt-ltb 0 (2 ^ w) (pow_pos w)) (zeros_fit w n)

-- Cells that are all 0 fit.
pub zero_rows_fit : (arrays : List ArrayDef) → rows_fit arrays (zero_cells arrays) ≡ true
zero_rows_fit [] = refl
zero_rows_fit (a ∷ arrays) = and_from _ _ (and_from _ _ (eq-eqb (length (replicate a.size 0)) a.size (length-replicate a.size 0)) (zeros_fit a.width a.size)) (zero_rows_fit arrays)
