-- The arrays of the lines of valid code are there.
use Rattle.std.proofs.Common.{◌≡◌, ℕ, zero, suc, ◌+◌, ◌<◌, List, [], ◌∷◌, ◌++◌, Option, Some, None, true, nat_eq, nat_lt, length, slice_get, map, refl, sym, subst, ◌∙◌, ⊎_elim, arith}
use Rattle.std.specs.List.{list_all, flat_map, enumerate_from, All, AllByRecursion}
use Rattle.std.specs.Option.{option_map_or, option_to_list}
use Rattle.std.proofs.lemmas.Bool.{and_parts, or_cases, eqb-true, true≢false, ltb-true}
use Rattle.lucid_code.specs.declared.op.Op.{Op}
use Rattle.lucid_code.specs.Parts.{CodeParts}
use Rattle.lucid_code.specs.Uses.{called_by}
use Rattle.lucid_code.specs.Valid.{IsValid, op_is_sound, names_are_there, inputs_stay, widths_agree, act_keeps_limits, literal_fits}
use Rattle.lucid_tables.specs.declared.stage.StageCode.{StageCode}
use Rattle.lucid_tables.specs.declared.table.Table.{Table}
use Rattle.lucid_tables.specs.Numbers.{is_in, rising}
use Rattle.lucid_tables.specs.Placed.{named_by}
use Rattle.lucid_tables.proofs.Rising.{in_with_numbers}
use Rattle.lucid_stages.specs.Placing.{arrays_at, arrays_in}
use Rattle.lucid_stages.specs.Marks.{Within}
use Rattle.lucid_stages.proofs.PlacingLemmas.{sound_at}
use Rattle.lucid_stages.proofs.NodeOrderLemmas.{within_from, within_join}
use Rattle.lucid_layout_text.specs.Lines.{ArraysAreThere}
use Rattle.lucid_layout_text.specs.Text.{line_of, lines, lines_in}
use Rattle.lucid_layout_text.specs.declared.table_line.TableLine.{TableLine}

all_of : {A : Type 0} (P : A → Type 0) (xs : List A) → AllByRecursion P xs → All P xs
all_of P [] h k d l = absurd (omega (arith, l))
all_of P (x ∷ xs) h zero d l = h.0
all_of P (x ∷ xs) h (suc k) d l = all_of P xs h.1 k d (omega (arith, l))

module _ (code : CodeParts) (valid : IsValid code) where
  call_there : (i : ℕ) (o : Op) → slice_get code.ops i ≡ Some o → Within (length code.arrays) (option_to_list (called_by o.act))
  call_there i o e =
      let sound = sound_at (op_is_sound code.fields code.inputs code.arrays) code.ops i o valid.ops e in
      let outer = and_parts _ (list_all (literal_fits code.fields) o.guard) sound in
      let third = and_parts _ (act_keeps_limits o.act) outer.0 in
      let second = and_parts _ (widths_agree code.fields code.arrays o.act) third.0 in
      let first = and_parts (names_are_there code.fields code.arrays o) (inputs_stay code.inputs o.act) second.0 in
      let names = and_parts _ (option_map_or (λ a. nat_lt a (length code.arrays)) (called_by o.act) true) first.0 in
      by (called_by o.act) names.1
    where
      by : (g : Option ℕ) → option_map_or (λ a. nat_lt a (length code.arrays)) g true ≡ true → Within (length code.arrays) (option_to_list g)
      by None h = tt
      by (Some g) h = (ltb-true g (length code.arrays) h, tt)

  calls_there : (places : List ℕ) → Within (length code.arrays) (arrays_at code.ops places)
  calls_there [] = tt
  calls_there (i ∷ places) =
      within_join (length code.arrays) (option_map_or (λ (o : Op). option_to_list (called_by o.act)) (slice_get code.ops i) []) (arrays_at code.ops places) (by (slice_get code.ops i) refl) (calls_there places)
    where
      by : (r : Option Op) → slice_get code.ops i ≡ r → Within (length code.arrays) (option_map_or (λ (o : Op). option_to_list (called_by o.act)) r [])
      by None e = tt
      by (Some o) e = call_there i o e

  within_at : (m : ℕ) (xs : List ℕ) (k : ℕ) → Within m xs → is_in k xs ≡ true → k < m
  within_at m [] k h n = absurd (true≢false (sym n))
  within_at m (x ∷ xs) k h n = ⊎_elim (λ e. subst (λ j. j < m) (eqb-true x k e) h.0) (λ r. within_at m xs k h.1 r) (or_cases (nat_eq x k) (is_in k xs) n)

  arrays_there : (tables : List Table) → Within (length code.arrays) (arrays_in code.ops tables)
  arrays_there tables =
      let calls = arrays_at code.ops (flat_map named_by tables) in
      within_from (length code.arrays) (rising calls) (λ g n. within_at (length code.arrays) calls g (calls_there (flat_map named_by tables)) (sym (in_with_numbers calls [] g) ∙ n))

  -- the arrays of a line
  abbrev Fits : TableLine → Type 0
  Fits l = All (λ g. g < length code.arrays) l.arrays

  lines_join : (xs ys : List TableLine) → AllByRecursion Fits xs → AllByRecursion Fits ys → AllByRecursion Fits (xs ++ ys)
  lines_join [] ys h g = g
  lines_join (x ∷ xs) ys h g = (h.0, lines_join xs ys h.1 g)

  tables_there : (stage n : ℕ) (tables : List Table) → AllByRecursion Fits (map (λ (t : ℕ × Table). line_of code.ops stage t.0 t.1) (enumerate_from n tables))
  tables_there stage n [] = tt
  tables_there stage n (t ∷ tables) = (all_of (λ g. g < length code.arrays) (arrays_in code.ops (t ∷ [])) (arrays_there (t ∷ [])), tables_there stage (n + 1) tables)

  stages_there : (n : ℕ) (stages : List StageCode) → AllByRecursion Fits (flat_map (λ (s : ℕ × StageCode). lines_in code.ops s.0 s.1.tables) (enumerate_from n stages))
  stages_there n [] = tt
  stages_there n (s ∷ stages) =
      lines_join (lines_in code.ops n s.tables) (flat_map (λ (s : ℕ × StageCode). lines_in code.ops s.0 s.1.tables) (enumerate_from (n + 1) stages)) (tables_there n 0 s.tables) (stages_there (n + 1) stages)

pub lines_are_there : (code : CodeParts) (stages : List StageCode) → IsValid code → ArraysAreThere (length code.arrays) (lines code.ops stages)
lines_are_there code stages valid = all_of (Fits code valid) (lines code.ops stages) (stages_there code valid 0 stages)
