-- Cells that fit their arrays stay so while valid code runs.
use Rattle.std.proofs.Common.{◌≡◌, ℕ, zero, suc, ◌<◌, ◌^◌, List, [], ◌∷◌, Bool, true, false, ◌&&◌, Option, Some, map, slice_get, nat_eq, refl, sym, ap, ◌∙◌, true≢false, mod-lt, pow_pos, inl, inr}
use Rattle.std.specs.Option.{option_map_or}
use Rattle.std.proofs.lemmas.Bool.{and_parts, eqb-true, lt-ltb}
use Rattle.lucid_base.specs.Cells.{cell_at, rows_fit}
use Rattle.lucid_base.specs.Memop.{memop_of, apply_of}
use Rattle.lucid_base.specs.Ops.{low_of}
use Rattle.lucid_base.specs.declared.array.ArrayDef.{ArrayDef}
use Rattle.lucid_base.specs.declared.memory_alu.MemAlu.{MemAlu}
use Rattle.lucid_base.proofs.CellsFit.{rows-set}
use Rattle.lucid_code.specs.declared.op.Act.{Act}
use Rattle.lucid_code.specs.declared.op.Act.TheVariants as act
use Rattle.lucid_code.specs.declared.op.Op.{Op}
use Rattle.lucid_code.specs.Guards.{all_hold}
use Rattle.lucid_code.specs.Parts.{CodeParts}
use Rattle.lucid_code.specs.Run.{Machine, value, stored, run_op, run}
use Rattle.lucid_code.specs.Valid.{IsValid, is_wide, widths_agree}
use Rattle.lucid_code.proofs.Acting.{acts, rests}
use Rattle.lucid_code.proofs.Facts.{sound_each}
use Rattle.lucid_code.proofs.Members.{In}

memop_small : (m : MemAlu) (stored arg : ℕ) → memop_of m stored arg < 2 ^ m.width
memop_small m stored arg = mod-lt (apply_of m (low_of m.width stored) (low_of m.width arg)) (pow_pos m.width)

array_width : (fields : List ℕ) (get set : MemAlu) (to : Option ℕ) (arrays : List ArrayDef) (a : ℕ) →
    option_map_or (λ d. nat_eq get.width d.width && nat_eq set.width d.width && option_map_or (is_wide fields d.width) to true) (slice_get arrays a) false ≡ true → slice_get (map (λ d. d.width) arrays) a ≡ Some set.width
array_width fields get set to [] a h = absurd (true≢false (sym h))
array_width fields get set to (d ∷ arrays) zero h =
    let parts = and_parts (nat_eq get.width d.width && nat_eq set.width d.width) (option_map_or (is_wide fields d.width) to true) h in
    ap Some (sym (eqb-true set.width d.width (and_parts (nat_eq get.width d.width) (nat_eq set.width d.width) parts.0).1))
array_width fields get set to (d ∷ arrays) (suc a) h = array_width fields get set to arrays a h

module _ (fields : List ℕ) (arrays : List ArrayDef) where
  stored_fits : (a : Act) (m : Machine) → widths_agree fields arrays a ≡ true → rows_fit arrays m.cells ≡ true → rows_fit arrays (stored a m) ≡ true
  stored_fits (act.Touch array index get get_arg set set_arg to) m h fit =
      rows-set arrays m.cells array (value m.fields index) set.width (memop_of set (cell_at m.cells array (value m.fields index)) (value m.fields set_arg))
      (array_width fields get set to arrays array h)
      (lt-ltb (memop_of set (cell_at m.cells array (value m.fields index)) (value m.fields set_arg)) (2 ^ set.width) (memop_small set (cell_at m.cells array (value m.fields index)) (value m.fields set_arg))) fit
  stored_fits (act.Un op w a k) m h fit = fit
  stored_fits (act.Bin op w a b k) m h fit = fit
  stored_fits (act.Cmp op w a b k) m h fit = fit
  stored_fits (act.Cast a k) m h fit = fit
  stored_fits (act.Hash xs k) m h fit = fit
  stored_fits (act.Move a k) m h fit = fit
  stored_fits (act.Gen slot event args delay to) m h fit = fit
  stored_fits (act.Say slot form args) m h fit = fit

  op_cells : (widths : List ℕ) (m : Machine) (o : Op) → widths_agree fields arrays o.act ≡ true → rows_fit arrays m.cells ≡ true → rows_fit arrays (run_op widths m o).cells ≡ true
  op_cells widths m o h fit = by (all_hold m.fields o.guard) refl
    where
      by : (b : Bool) → all_hold m.fields o.guard ≡ b → rows_fit arrays (run_op widths m o).cells ≡ true
      by true g = ap (λ (n : Machine). rows_fit arrays n.cells) (acts widths m o g) ∙ stored_fits o.act m h fit
      by false g = ap (λ (n : Machine). rows_fit arrays n.cells) (rests widths m o g) ∙ fit

  run_cells : (widths : List ℕ) (ops : List Op) → ((o : Op) → In o ops → widths_agree fields arrays o.act ≡ true) → (m : Machine) → rows_fit arrays m.cells ≡ true → rows_fit arrays (run widths ops m).cells ≡ true
  run_cells widths [] each m fit = fit
  run_cells widths (o ∷ ops) each m fit = run_cells widths ops (λ q i. each q (inr i)) (run_op widths m o) (op_cells widths m o (each o (inl refl)) fit)

pub code_cells_fit : (code : CodeParts) → IsValid code → (m : Machine) → rows_fit code.arrays m.cells ≡ true → rows_fit code.arrays (run code.fields code.ops m).cells ≡ true
code_cells_fit code valid m fit = run_cells code.fields code.arrays code.fields code.ops (λ o i. (and_parts _ _ (and_parts _ _ (and_parts _ _ (sound_each code valid o i)).0).0).1) m fit
