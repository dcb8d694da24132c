-- Texts of layouts that are worked by hand.
use Rattle.std.specs.Prelude.{◌≡◌, ℕ, List, [], ◌∷◌, ◌++◌, None, codes}
use Rattle.lucid_base.specs.declared.array.ArrayDef.{ArrayDef}
use Rattle.lucid_code.specs.declared.op.Act.TheVariants as act
use Rattle.lucid_code.specs.declared.op.Op.{Op}
use Rattle.lucid_code.specs.Examples.{is, fixed, op, same, one_argument}
use Rattle.lucid_code.specs.Parts.{CodeParts}
use Rattle.lucid_tables.specs.declared.table.Row.{Row}
use Rattle.lucid_tables.specs.Examples.{row, stage_of}
use Rattle.lucid_tables.specs.Placed.{placed_of}
use Rattle.lucid_stages.specs.Examples.{branches, laid_out}
use Rattle.lucid_layout_text.specs.Text.{layout_text}

abbrev pub named : List ℕ → ArrayDef
named name = record { name = name; width = 32; size = 2 }

-- Two arrays are touched, and an operation acts at each event.
abbrev pub touching : List Op
touching =
    op (is 0 1 ∷ []) 0 (act.Touch 1 (fixed 0) (same 32) (fixed 0) (same 32) (fixed 0) None)
    ∷ op (is 0 2 ∷ []) 0 (act.Touch 0 (fixed 0) (same 32) (fixed 0) (same 32) (fixed 0) None)
    ∷ op [] 0 (act.Gen 0 0 [] (fixed 0) None)
    ∷ []

abbrev pub touch : CodeParts
touch = record {
  fields = 32 ∷ 32 ∷ 32 ∷ 32 ∷ [];
  inputs = one_argument;
  arrays = named (codes "hits") ∷ named (codes "seen") ∷ [];
  ops = touching;
}

-- An empty table, and one whose last operation is in three rows.
abbrev pub tables : List (List Row)
tables = [] ∷ (row (is 0 1 ∷ []) (0 ∷ 2 ∷ []) ∷ row (is 0 2 ∷ []) (1 ∷ 2 ∷ []) ∷ row [] (2 ∷ []) ∷ []) ∷ []

pub record TextExamples : Type 0 where
  pub branches_text : layout_text (placed_of (record branches { arrays = named (codes "x") ∷ [] }) laid_out)
      ≡ codes "ops 9 bits 321 nodes 8\n"
      ++ codes "stage 0 table 0 rows 1 ops 2\n"
      ++ codes "stage 1 table 0 rows 2 ops 2 arrays x\n"
      ++ codes "stage 2 table 0 rows 2 ops 2\n"
      ++ codes "stage 3 table 0 rows 2 ops 2\n"
      ++ codes "stage 4 table 0 rows 1 ops 1\n"
  pub touch_text : layout_text (placed_of touch (stage_of tables (0 ∷ 1 ∷ []) ∷ stage_of [] [] ∷ []))
      ≡ codes "ops 3 bits 128 nodes 3\n"
      ++ codes "stage 0 table 0 rows 0 ops 0\n"
      ++ codes "stage 0 table 1 rows 3 ops 3 arrays hits seen\n"
