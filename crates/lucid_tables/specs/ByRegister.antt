-- Stages and acts by register: the form that a machine with registers alone executes. Each field is replaced by its register; one that
-- has none by the number of registers, past the last, where any list of registers holds 0.
use Rattle.std.specs.Prelude.{ℕ, List, map, length, slice_index}
use Rattle.std.specs.Option.{option_map, option_map_or}
use Rattle.lucid_code.specs.declared.op.Act.{Act}
use Rattle.lucid_code.specs.declared.op.Act.TheVariants as act
use Rattle.lucid_code.specs.declared.op.Literal.{Literal}
use Rattle.lucid_code.specs.declared.op.Op.{Op}
use Rattle.lucid_code.specs.declared.op.Operand.{Operand}
use Rattle.lucid_code.specs.declared.op.Operand.TheVariants.{Fixed, Field}
use Rattle.lucid_code.specs.Parts.{CodeParts}
use Rattle.lucid_tables.specs.declared.stage.StageCode.{StageCode}
use Rattle.lucid_tables.specs.declared.table.Row.{Row}
use Rattle.lucid_tables.specs.declared.table.Table.{Table}
use Rattle.lucid_tables.specs.Registers.{registers_of, register_of}

abbrev pub place_of : CodeParts → ℕ → ℕ
place_of code field = option_map_or (λ r. r) (register_of code field) (length (registers_of code))

-- ---- rows, of which only patterns name fields

abbrev pub literal_by_register : CodeParts → Literal → Literal
literal_by_register code l = record l { field = place_of code l.field }

abbrev pub pattern_by_register : CodeParts → List Literal → List Literal
pattern_by_register code pattern = map (literal_by_register code) pattern

abbrev pub row_by_register : CodeParts → Row → Row
row_by_register code r = record { pattern = pattern_by_register code r.pattern; ops = r.ops }

abbrev pub rows_by_register : CodeParts → List Row → List Row
rows_by_register code rows = map (row_by_register code) rows

abbrev pub tables_by_register : CodeParts → List Table → List (List Row)
tables_by_register code tables = map (λ (t : Table). rows_by_register code t.rows) tables

-- The tables of each stage, each as its rows.
abbrev pub stages_by_register : CodeParts → List StageCode → List (List (List Row))
stages_by_register code stages = map (λ (s : StageCode). tables_by_register code s.tables) stages

-- ---- acts

abbrev pub operand_by_register : CodeParts → Operand → Operand
operand_by_register code (Fixed v) = Fixed v
operand_by_register code (Field k) = Field (place_of code k)

abbrev pub operands_by_register : CodeParts → List Operand → List Operand
operands_by_register code operands = map (operand_by_register code) operands

abbrev pub act_by_register : CodeParts → Act → Act
act_by_register code (act.Un op w a k) = act.Un op w (operand_by_register code a) (place_of code k)
act_by_register code (act.Bin op w a b k) = act.Bin op w (operand_by_register code a) (operand_by_register code b) (place_of code k)
act_by_register code (act.Cmp op w a b k) = act.Cmp op w (operand_by_register code a) (operand_by_register code b) (place_of code k)
act_by_register code (act.Cast a k) = act.Cast (operand_by_register code a) (place_of code k)
act_by_register code (act.Hash xs k) = act.Hash (operands_by_register code xs) (place_of code k)
act_by_register code (act.Move a k) = act.Move (operand_by_register code a) (place_of code k)
act_by_register code (act.Touch array index get get_arg set set_arg to) =
    act.Touch array (operand_by_register code index) get (operand_by_register code get_arg) set (operand_by_register code set_arg) (option_map (place_of code) to)
act_by_register code (act.Gen slot event args delay to) =
    act.Gen slot event (operands_by_register code args) (operand_by_register code delay) (option_map (operand_by_register code) to)
act_by_register code (act.Say slot form args) = act.Say slot form (operands_by_register code args)

-- The act of each of these operations.
abbrev pub acts_by_register : CodeParts → List Op → List Act
acts_by_register code ops = map (λ (o : Op). act_by_register code o.act) ops

-- The width of each register.
abbrev pub widths_by_register : CodeParts → List ℕ
widths_by_register code = map (slice_index code.fields) (registers_of code)
