-- Cells that fit a program, and arrays that have the widths of the parameters for which they are passed.
use Rattle.std.proofs.Common.{◌≡◌, ℕ, zero, suc, ◌<◌, ◌^◌, List, [], ◌∷◌, true, map, Some, sym, ap, ◌∙◌, slice_get}
use Rattle.std.proofs.lemmas.Bool.{lt-ltb}
use Rattle.lucid_base.specs.Cells.{with_cell, zero_cells}
use Rattle.lucid_base.specs.declared.array.ArrayName.{ArrayName}
use Rattle.lucid_base.specs.declared.array.ArrayName.TheVariants.{Global, Param}
use Rattle.lucid_base.proofs.CellsFit.{rows-set, zero_rows_fit}
use Rattle.lucid_core.specs.Computations.{Frame, array_of}
use Rattle.lucid_core.specs.Fits.{cells_fit}
use Rattle.lucid_core.specs.Parts.{CoreParts}
use Rattle.lucid_core.specs.Scope.{Scope}
use Rattle.lucid_core.specs.Typing.{all_typed, cell_width}
use Rattle.lucid_core.proofs.Fine.{Asked, AreWide, IsWide, Stands}
use Rattle.lucid_core.proofs.TypingRules.{all_rule}

-- A write of a number within the width keeps the cells fit.
pub with_cell-fits : (core : CoreParts) (cells : List (List ℕ)) (a i w v : ℕ) → IsWide core a w → v < 2 ^ w → cells_fit core cells ≡ true → cells_fit core (with_cell cells a i v) ≡ true
with_cell-fits core cells a i w v there small fit = rows-set core.arrays cells a i w v there (lt-ltb v (2 ^ w) small) fit

-- Cells that are all 0 fit.
pub zero_cells-fit : (core : CoreParts) → cells_fit core (zero_cells core.arrays) ≡ true
zero_cells-fit core = zero_rows_fit core.arrays

pub nothing_there : (i w : ℕ) → slice_get [] i ≡ Some w → ⊥
nothing_there i w h = cc

module _ (asked : Asked) (core : CoreParts) (s : Scope) (p : Frame) (stands : Stands asked core s p) (is : asked.cells ≡ true) where
  -- A name denotes an array of its width.
  pub is_wide : (name : ArrayName) (w : ℕ) → cell_width name s ≡ Some w → IsWide core (array_of p.arrays name) w
  is_wide (Global a) w h = ap (λ (ws : List ℕ). slice_get ws a) (sym stands.arrays) ∙ h
  is_wide (Param i) w h = stands.params is i w h

  -- So do all that a function is given.
  pub are_wide : (names : List ArrayName) (ws : List ℕ) → all_typed (map cell_width names) s ≡ Some ws → AreWide core ws (map (array_of p.arrays) names)
  are_wide [] ws h i w there = let e : ws ≡ [] = cc in absurd (nothing_there i w (ap (λ (q : List ℕ). slice_get q i) (sym e) ∙ there))
  are_wide (name ∷ names) ws h zero w there =
      let rule = all_rule s (cell_width name) (map cell_width names) ws h in
      let e : rule.0 ≡ w = cc in
      is_wide name w (rule.1 ∙ ap (λ (n : ℕ). Some n) e)
  are_wide (name ∷ names) ws h (suc i) w there =
      let rule = all_rule s (cell_width name) (map cell_width names) ws h in
      are_wide names rule.2.0 rule.2.1 i w (ap (λ (q : List ℕ). slice_get q (suc i)) (sym rule.2.2) ∙ there)
