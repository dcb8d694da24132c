-- The text of a layout: its counts, and then a line for each table, by stage and table.
use Rattle.std.specs.Prelude.{ℕ, List, [], ◌∷◌, map, length}
use Rattle.std.specs.List.{flat_map, enumerate_from}
use Rattle.lucid_code.specs.declared.op.Op.{Op}
use Rattle.lucid_tables.specs.declared.stage.StageCode.{StageCode}
use Rattle.lucid_tables.specs.declared.table.Table.{Table}
use Rattle.lucid_tables.specs.Numbers.{rising}
use Rattle.lucid_tables.specs.Placed.{PlacedParts, named_by}
use Rattle.lucid_stages.specs.Counts.{bits_of}
use Rattle.lucid_stages.specs.Placing.{arrays_in}
use Rattle.lucid_code.specs.Nodes.{nodes}
use Rattle.lucid_layout_text.specs.declared.table_line.TableLine.{TableLine}
use Rattle.lucid_layout_text.specs.Lines.{text_of}

-- The line of a table. An operation is counted once, however many rows name it.
abbrev pub line_of : List Op → ℕ → ℕ → Table → TableLine
line_of ops stage number t = record {
  stage = stage;
  table = number;
  rows = length t.rows;
  ops = length (rising (named_by t));
  arrays = arrays_in ops (t ∷ []);
}

-- The tables of a stage.
abbrev pub lines_in : List Op → ℕ → List Table → List TableLine
lines_in ops stage tables = map (λ (t : ℕ × Table). line_of ops stage t.0 t.1) (enumerate_from 0 tables)

abbrev pub lines : List Op → List StageCode → List TableLine
lines ops stages = flat_map (λ (s : ℕ × StageCode). lines_in ops s.0 s.1.tables) (enumerate_from 0 stages)

abbrev pub layout_text : PlacedParts → List ℕ
layout_text p = text_of p.code (bits_of p.code) (length (nodes p.code.ops)) (lines p.code.ops p.stages)
