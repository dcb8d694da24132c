-- A run on registers is a run on fields.
use Rattle.std.proofs.Common.{◌≡◌, ℕ, ◌<◌, List, [], ◌∷◌, Bool, true, not, ◌&&◌, if◌then◌else◌, Option, None, Some, is_some, IsSome, length, nat_eq, slice_get, slice_index, slice_index_or, slice_set, refl, sym, ap, ap₂, ◌∙◌, arith}
use Rattle.std.specs.List.{fold}
use Rattle.std.specs.Option.{option_map, option_map_or}
use Rattle.std.proofs.lemmas.Bool.{eqb-true}
use Rattle.std.proofs.lemmas.List.{get_or_past, get_or-map, length-map, length-set}
use Rattle.std.proofs.lemmas.List.Quantifiers.{position-Some}
use Rattle.std.proofs.lemmas.Option.{slice_get-get_or, slice_get-map}
use Rattle.lucid_base.specs.Bool.{bit_of}
use Rattle.lucid_base.specs.Cells.{cell_at, with_cell}
use Rattle.lucid_base.specs.Hash.{fnv_1a, bytes_of}
use Rattle.lucid_base.specs.Memop.{memop_of}
use Rattle.lucid_base.specs.Ops.{un_of, bin_of, cmp_of, low_of}
use Rattle.lucid_base.specs.declared.event.Out.{Out}
use Rattle.lucid_base.specs.declared.event.Out.TheVariants as out
use Rattle.lucid_base.specs.declared.event.Target.TheVariants.{At}
use Rattle.lucid_code.specs.declared.op.Act.{Act}
use Rattle.lucid_code.specs.declared.op.Act.TheVariants as act
use Rattle.lucid_code.specs.declared.op.Literal.{Literal}
use Rattle.lucid_code.specs.declared.op.Op.{Op}
use Rattle.lucid_code.specs.declared.op.Operand.{Operand}
use Rattle.lucid_code.specs.declared.op.Operand.TheVariants.{Fixed, Field}
use Rattle.lucid_code.specs.Guards.{holds, all_hold}
use Rattle.lucid_code.specs.Parts.{CodeParts}
use Rattle.lucid_code.specs.Run.{Machine, value, values, target_of, put, put_out, result, stored, sent, written, run_act}
use Rattle.lucid_code.specs.Uses.{written_by}
use Rattle.lucid_code.specs.Valid.{IsValid}
use Rattle.lucid_tables.specs.declared.stage.StageCode.{StageCode}
use Rattle.lucid_tables.specs.declared.table.Row.{Row}
use Rattle.lucid_tables.specs.declared.table.Table.{Table}
use Rattle.lucid_tables.specs.ByRegister.{place_of, literal_by_register, pattern_by_register, rows_by_register, tables_by_register, stages_by_register, operand_by_register, operands_by_register, act_by_register, widths_by_register}
use Rattle.lucid_tables.specs.Placed.{IsPlaced}
use Rattle.lucid_tables.specs.Registers.{registers_of, register_of}
use Rattle.lucid_tables.specs.Rows.{acts}
use Rattle.lucid_tables.specs.Stages.{stage}
use Rattle.lucid_tables.proofs.Carried.{carried_below}
use Rattle.lucid_tables.proofs.Numbering.{register_tells}
use Rattle.lucid_pipe.specs.Blocks.{fields_of, machine, on_registers}
use Rattle.lucid_pipe.specs.InPlace.{run_numbered, run_tables, run_number, run_rows, run_all_rows}
use Rattle.lucid_pipe.proofs.Carried.{written_carried, written_same}
use Rattle.lucid_pipe.proofs.Fields.{field_held, field_put, put_within}
use Rattle.lucid_pipe.proofs.Together.{stage_at}

-- The fields of registers.
abbrev seen : CodeParts → Machine → Machine
seen code m = machine code m.fields m.cells m.outs

abbrev IsLong : CodeParts → Machine → Type 0
IsLong code m = length m.fields ≡ length (registers_of code)

module _ (code : CodeParts) (valid : IsValid code) (registers : List ℕ) (long : length registers ≡ length (registers_of code)) where
  held_at : (k : ℕ) → slice_index registers (place_of code k) ≡ slice_index (fields_of code registers) k
  held_at k = by (register_of code k) refl
    where
      there : (r : Option ℕ) → r ≡ register_of code k → IsSome r → k < length code.fields
      there r e h = carried_below code k valid (ap is_some (sym e) ∙ h)

      by : (r : Option ℕ) → r ≡ register_of code k → slice_index registers (option_map_or (λ j. j) r (length (registers_of code))) ≡ slice_index (fields_of code registers) k
      by None e = get_or_past registers (length (registers_of code)) 0 (omega (arith, long)) ∙ sym (field_held code registers k None e (there None e))
      by (Some i) e = sym (field_held code registers k (Some i) e (there (Some i) e))

  value_same : (o : Operand) → value registers (operand_by_register code o) ≡ value (fields_of code registers) o
  value_same (Fixed v) = refl
  value_same (Field k) = held_at k

  values_same : (os : List Operand) → values registers (operands_by_register code os) ≡ values (fields_of code registers) os
  values_same [] = refl
  values_same (o ∷ os) = ap₂ (λ (v : ℕ) (vs : List ℕ). v ∷ vs) (value_same o) (values_same os)

  target_same : (to : Option Operand) → target_of registers (option_map (operand_by_register code) to) ≡ target_of (fields_of code registers) to
  target_same None = refl
  target_same (Some o) = ap At (value_same o)

  holds_same : (l : Literal) → holds registers (literal_by_register code l) ≡ holds (fields_of code registers) l
  holds_same l = ap (λ v. if l.equal then nat_eq v l.value else not (nat_eq v l.value)) (held_at l.field)

  all_hold_same : (pattern : List Literal) → all_hold registers (pattern_by_register code pattern) ≡ all_hold (fields_of code registers) pattern
  all_hold_same [] = refl
  all_hold_same (l ∷ pattern) = ap₂ (λ (a b : Bool). a && b) (holds_same l) (all_hold_same pattern)

  acts_same : (rows : List Row) → acts registers (rows_by_register code rows) ≡ acts (fields_of code registers) rows
  acts_same [] = refl
  acts_same (r ∷ rows) = ap₂ (λ (b : Bool) (rest : List ℕ). if b then r.ops else rest) (all_hold_same r.pattern) (acts_same rows)

  module _ (cells : List (List ℕ)) (outs : List (ℕ × Out)) where
    abbrev m : Machine
    m = on_registers registers cells outs

    abbrev n : Machine
    n = machine code registers cells outs

    result_same : (a : Act) → result (act_by_register code a) m ≡ result a n
    result_same (act.Un op w a k) = ap (λ x. un_of op w (low_of w x)) (value_same a)
    result_same (act.Bin op w a b k) = ap₂ (λ (x y : ℕ). bin_of op w (low_of w x) (low_of w y)) (value_same a) (value_same b)
    result_same (act.Cmp op w a b k) = ap₂ (λ (x y : ℕ). bit_of (cmp_of op (low_of w x) (low_of w y))) (value_same a) (value_same b)
    result_same (act.Cast a k) = value_same a
    result_same (act.Hash xs k) = ap (λ vs. fnv_1a (bytes_of vs)) (values_same xs)
    result_same (act.Move a k) = value_same a
    result_same (act.Touch array index get get_arg set set_arg to) = ap₂ (λ (x y : ℕ). memop_of get (cell_at cells array x) y) (value_same index) (value_same get_arg)
    result_same (act.Gen slot event args delay to) = refl
    result_same (act.Say slot form args) = refl

    stored_same : (a : Act) → stored (act_by_register code a) m ≡ stored a n
    stored_same (act.Un op w a k) = refl
    stored_same (act.Bin op w a b k) = refl
    stored_same (act.Cmp op w a b k) = refl
    stored_same (act.Cast a k) = refl
    stored_same (act.Hash xs k) = refl
    stored_same (act.Move a k) = refl
    stored_same (act.Touch array index get get_arg set set_arg to) = ap₂ (λ (x y : ℕ). with_cell cells array x (memop_of set (cell_at cells array x) y)) (value_same index) (value_same set_arg)
    stored_same (act.Gen slot event args delay to) = refl
    stored_same (act.Say slot form args) = refl

    sent_same : (a : Act) → sent (act_by_register code a) m ≡ sent a n
    sent_same (act.Un op w a k) = refl
    sent_same (act.Bin op w a b k) = refl
    sent_same (act.Cmp op w a b k) = refl
    sent_same (act.Cast a k) = refl
    sent_same (act.Hash xs k) = refl
    sent_same (act.Move a k) = refl
    sent_same (act.Touch array index get get_arg set set_arg to) = refl
    sent_same (act.Gen slot event args delay to) =
        ap₂ (λ (vs : List ℕ) (d : ℕ). put_out slot (out.Gen (record { id = event; args = vs }) d (target_of registers (option_map (operand_by_register code) to))) outs) (values_same args) (value_same delay)
        ∙ ap (λ t. put_out slot (out.Gen (record { id = event; args = values (fields_of code registers) args }) (value (fields_of code registers) delay) t) outs) (target_same to)
    sent_same (act.Say slot form args) = ap (λ vs. put_out slot (out.Say form vs) outs) (values_same args)

  width_at : (k i : ℕ) → Some i ≡ register_of code k → slice_index (widths_by_register code) i ≡ slice_index code.fields k
  width_at k i e =
      get_or-map (slice_index code.fields) (registers_of code) i 0 0 (register_tells code k (Some i) e).1
      ∙ ap (slice_index code.fields) (eqb-true (slice_index (registers_of code) i) k (position-Some (λ j. nat_eq j k) (registers_of code) i 0 (sym e)).1)

  -- a field that is written, and as many registers as before
  register_written : (w : Option ℕ) (v : ℕ) → option_map_or (λ k. is_some (register_of code k)) w true ≡ true →
      (fields_of code (written (widths_by_register code) (option_map (place_of code) w) v registers) ≡ written code.fields w v (fields_of code registers))
      × (length (written (widths_by_register code) (option_map (place_of code) w) v registers) ≡ length (registers_of code))
  register_written None v h = (refl, long)
  register_written (Some k) v h = by (register_of code k) refl h
    where
      by : (r : Option ℕ) → r ≡ register_of code k → is_some r ≡ true → let i = option_map_or (λ j. j) r (length (registers_of code)) in
          let after = put registers i (low_of (slice_index (widths_by_register code) i) v) in
          (fields_of code after ≡ put (fields_of code registers) k (low_of (slice_index code.fields k) v)) × (length after ≡ length (registers_of code))
      by None e s = cc
      by (Some i) e s =
          let below : i < length registers = omega (arith, long, (register_tells code k (Some i) e).1) in
          let set = put_within registers i (low_of (slice_index (widths_by_register code) i) v) below in (
            ap (fields_of code) (set ∙ ap (λ w. slice_set registers i (low_of w v)) (width_at k i e))
                ∙ sym (field_put code registers k i (low_of (slice_index code.fields k) v) long e (carried_below code k valid (ap is_some (sym e)))),
            ap (λ (rs : List ℕ). length rs) set ∙ length-set registers i (low_of (slice_index (widths_by_register code) i) v) ∙ long,
          )

module _ (code : CodeParts) (valid : IsValid code) where
  act_same : (m : Machine) (a : Act) → IsLong code m → option_map_or (λ k. is_some (register_of code k)) (written_by a) true ≡ true →
      let after = run_act (widths_by_register code) (act_by_register code a) m in
      (seen code after ≡ run_act code.fields a (seen code m)) × IsLong code after
  act_same m a long h =
      let b = act_by_register code a in
      let v = result b m in
      let put_so = register_written code valid m.fields long (written_by a) v h in
      let by_place = λ (w : Option ℕ). written (widths_by_register code) w v m.fields in
      let made : fields_of code (by_place (written_by b)) ≡ written code.fields (written_by a) (result a (seen code m)) (fields_of code m.fields)
      = ap (λ w. fields_of code (by_place w)) (written_same code a) ∙ put_so.0 ∙ ap (λ u. written code.fields (written_by a) u (fields_of code m.fields)) (result_same code valid m.fields long m.cells m.outs a) in (
        ap (λ f. on_registers f (stored b m) (sent b m)) made
            ∙ ap₂ (λ (c : List (List ℕ)) (s : List (ℕ × Out)). on_registers (written code.fields (written_by a) (result a (seen code m)) (fields_of code m.fields)) c s)
            (stored_same code valid m.fields long m.cells m.outs a) (sent_same code valid m.fields long m.cells m.outs a),
        ap (λ w. length (by_place w)) (written_same code a) ∙ put_so.1,
      )

  number_same : (i : ℕ) (m : Machine) → IsLong code m → (seen code (run_number code m i) ≡ run_numbered code (seen code m) i) × IsLong code (run_number code m i)
  number_same i m long =
      let found = by (slice_get code.ops i) refl in
      let run = λ (p : Option Act). option_map_or (λ (a : Act). run_act (widths_by_register code) a m) p m in
      let same = slice_get-map (λ (o : Op). act_by_register code o.act) code.ops i in
      (ap (λ (p : Option Act). seen code (run p)) same ∙ found.0, ap (λ (p : Option Act). length (run p).fields) same ∙ found.1)
    where
      by : (found : Option Op) → slice_get code.ops i ≡ found →
          let after = option_map_or (λ (a : Act). run_act (widths_by_register code) a m) (option_map (λ (o : Op). act_by_register code o.act) found) m in
          (seen code after ≡ option_map_or (λ (o : Op). run_act code.fields o.act (seen code m)) found (seen code m)) × IsLong code after
      by None e = (refl, long)
      by (Some o) e = act_same m o.act long (written_carried code valid i o e)

  numbers_same : (names : List ℕ) (m : Machine) → IsLong code m →
      (seen code (fold (run_number code) m names) ≡ fold (run_numbered code) (seen code m) names) × IsLong code (fold (run_number code) m names)
  numbers_same [] m long = (refl, long)
  numbers_same (i ∷ names) m long =
      let first = number_same i m long in
      let rest = numbers_same names (run_number code m i) first.1 in
      (rest.0 ∙ ap (λ (n : Machine). fold (run_numbered code) n names) first.0, rest.1)

  tables_same : (tables : List Table) (m : Machine) → IsLong code m → seen code (run_all_rows code m (tables_by_register code tables)) ≡ run_tables code (seen code m) tables
  tables_same [] m long = refl
  tables_same (t ∷ tables) m long =
      let first = numbers_same (acts m.fields (rows_by_register code t.rows)) m long in
      tables_same tables (run_rows code m (rows_by_register code t.rows)) first.1
      ∙ ap (λ (n : Machine). run_tables code n tables) (first.0 ∙ ap (fold (run_numbered code) (seen code m)) (acts_same code valid m.fields long t.rows))

-- Stage k, where it is there, run by register.
pub stage_by_register : (code : CodeParts) (stages : List StageCode) (k : ℕ) (tables : List (List Row)) (registers : List ℕ) (cells : List (List ℕ)) (outs : List (ℕ × Out))
    (registers2 : List ℕ) (cells2 : List (List ℕ)) (outs2 : List (ℕ × Out)) → IsValid code → IsPlaced code stages → length registers ≡ length (registers_of code) → k < length stages →
    tables ≡ slice_index_or (stages_by_register code stages) k tables →
    on_registers registers2 cells2 outs2 ≡ run_all_rows code (on_registers registers cells outs) tables →
    machine code registers2 cells2 outs2 ≡ option_map_or (stage code (machine code registers cells outs)) (slice_get stages k) (machine code registers cells outs)
stage_by_register code stages k tables registers cells outs registers2 cells2 outs2 valid placed long l e after =
    ap (seen code) after ∙ by (slice_get stages k) refl (sym (slice_get-map (λ (s : StageCode). tables_by_register code s.tables) stages k) ∙ found)
  where
    found : slice_get (stages_by_register code stages) k ≡ Some tables
    found = slice_get-get_or (stages_by_register code stages) k tables (omega (arith, l, length-map stages (λ (s : StageCode). tables_by_register code s.tables))) ∙ ap Some (sym e)

    by : (s : Option StageCode) → slice_get stages k ≡ s → option_map (λ (s : StageCode). tables_by_register code s.tables) s ≡ Some tables →
        seen code (run_all_rows code (on_registers registers cells outs) tables) ≡ option_map_or (stage code (machine code registers cells outs)) s (machine code registers cells outs)
    by None g h = cc
    by (Some s) g h =
        let same : tables_by_register code s.tables ≡ tables = cc in
        ap (λ (ts : List (List Row)). seen code (run_all_rows code (on_registers registers cells outs) ts)) (sym same)
        ∙ tables_same code valid s.tables (on_registers registers cells outs) long
        ∙ stage_at code stages k s (machine code registers cells outs) placed g
