-- Code worked by hand, with places of its nodes, and the order of nodes.
use Rattle.std.specs.Prelude.{◌≡◌, ℕ, List, [], ◌∷◌, Some, None, true, false}
use Rattle.lucid_base.specs.declared.array.ArrayDef.{ArrayDef}
use Rattle.lucid_base.specs.declared.ops.CmpOp.TheVariants.{Eq}
use Rattle.lucid_code.specs.declared.op.Act.{Act}
use Rattle.lucid_code.specs.declared.op.Act.TheVariants as act
use Rattle.lucid_code.specs.declared.op.Literal.{Literal}
use Rattle.lucid_code.specs.declared.op.Op.{Op}
use Rattle.lucid_code.specs.declared.node.Node.TheVariants.{Pure, Array}
use Rattle.lucid_code.specs.Examples.{is, fixed, field, op, same, one_argument, move}
use Rattle.lucid_code.specs.Nodes.{nodes, nodes_follow_writes}
use Rattle.lucid_code.specs.Parts.{CodeParts}
use Rattle.lucid_tables.specs.declared.stage.StageCode.{StageCode}
use Rattle.lucid_tables.specs.Examples.{row, stage_of}
use Rattle.lucid_conf.specs.declared.limits.Limits.{Limits}
use Rattle.lucid_stages.specs.declared.stage.Pair.{Pair}

-- An array is read in both branches of an if, and the value is sent out: handle e(int v) { int n = 0; if (v == 0) { n = Array.get(x, 0);
-- } else { n = Array.get(x, 1); } generate out(n); } Fields 0 to 3 are the inputs.
abbrev pub handler : List Literal
handler = is 0 1 ∷ []

abbrev pub yes_branch : List Literal
yes_branch = is 0 1 ∷ is 5 1 ∷ []

abbrev pub no_branch : List Literal
no_branch = is 0 1 ∷ is 5 0 ∷ []

abbrev pub get : ℕ → ℕ → Act
get index to = act.Touch 0 (fixed index) (same 32) (fixed 0) (same 32) (fixed 0) (Some to)

abbrev pub branching : List Op
branching =
    op handler 0 (act.Move (fixed 0) 4)
    ∷ op handler 0 (act.Cmp Eq 32 (field 3) (fixed 0) 5)
    ∷ op yes_branch 0 (get 0 6)
    ∷ op yes_branch 1 (act.Move (field 6) 7)
    ∷ op no_branch 0 (get 1 8)
    ∷ op no_branch 1 (act.Move (field 8) 9)
    ∷ op yes_branch 1 (act.Move (field 7) 10)
    ∷ op no_branch 1 (act.Move (field 9) 10)
    ∷ op handler 1 (act.Gen 0 0 (field 10 ∷ []) (fixed 0) None)
    ∷ []

abbrev pub cells : ArrayDef
cells = record { name = []; width = 32; size = 2 }

abbrev pub branches : CodeParts
branches = record { fields = 32 ∷ 32 ∷ 32 ∷ 32 ∷ 32 ∷ 1 ∷ 32 ∷ 32 ∷ 32 ∷ 32 ∷ 32 ∷ []; inputs = one_argument; arrays = cells ∷ []; ops = branching }

abbrev pub at : ℕ → ℕ → Pair
at stage table = record { stage = stage; table = table }

-- The limits of a file that names none.
abbrev pub plain : Limits
plain = record { stages = 12; tables = 16; rows = 64; arrays = 4; arms = 8; bits = 16384; recirc = 0 }

abbrev pub places : List Pair
places = at 0 0 ∷ at 0 0 ∷ at 1 0 ∷ at 2 0 ∷ at 2 0 ∷ at 3 0 ∷ at 3 0 ∷ at 4 0 ∷ []

abbrev pub no_stage : StageCode
no_stage = stage_of [] []

abbrev pub laid_out : List StageCode
laid_out =
    stage_of ((row handler (0 ∷ 1 ∷ []) ∷ []) ∷ []) []
    ∷ stage_of ((row yes_branch (2 ∷ []) ∷ row no_branch (4 ∷ []) ∷ []) ∷ []) (0 ∷ [])
    ∷ stage_of ((row yes_branch (3 ∷ []) ∷ row no_branch (5 ∷ []) ∷ []) ∷ []) []
    ∷ stage_of ((row yes_branch (6 ∷ []) ∷ row no_branch (7 ∷ []) ∷ []) ∷ []) []
    ∷ stage_of ((row handler (8 ∷ []) ∷ []) ∷ []) []
    ∷ no_stage ∷ no_stage ∷ no_stage ∷ no_stage ∷ no_stage ∷ no_stage ∷ no_stage ∷ []

-- ---- the order of nodes

-- An operation of this level that moves field k to field m.
abbrev pub moved : ℕ → ℕ → ℕ → Op
moved level k m = op [] level (act.Move (field k) m)

pub record NodeExamples : Type 0 where
  -- levels and arrays take turns: those of level 0, array 0, those of level 1, array 1
  pub by_key : nodes (op [] 0 (act.Touch 1 (fixed 0) (same 32) (fixed 0) (same 32) (fixed 0) None) ∷ moved 1 3 4 ∷ op handler 0 (get 0 6) ∷ moved 0 3 5 ∷ [])
      ≡ Pure 3 ∷ Array 0 ∷ Pure 1 ∷ Array 1 ∷ []
  pub by_place : nodes (moved 0 3 5 ∷ moved 1 3 6 ∷ moved 0 3 4 ∷ []) ≡ Pure 0 ∷ Pure 2 ∷ Pure 1 ∷ []
  -- an operation may follow one that is later in the list and has a smaller key, but not one of its own key, nor one of a greater
  pub smaller_key_later : nodes_follow_writes (moved 1 4 6 ∷ move 4 ∷ []) ≡ true
  pub same_key_later : nodes_follow_writes (moved 0 4 6 ∷ move 4 ∷ []) ≡ false
  pub greater_key : nodes_follow_writes (moved 1 3 4 ∷ moved 0 4 6 ∷ []) ≡ false
  pub own_field : nodes_follow_writes (moved 0 4 4 ∷ []) ≡ false
