-- Code that is worked by hand through the passes: two programs through all four, one after another, and then each rule of a pass alone.
use Rattle.std.specs.Prelude.{◌≡◌, ℕ, List, [], ◌∷◌, None, Some}
use Rattle.lucid_base.specs.declared.memory_alu.MemAlu.{MemAlu}
use Rattle.lucid_base.specs.declared.memory_alu.MemArg.TheVariants.{Stored}
use Rattle.lucid_base.specs.declared.memory_alu.MemSide.TheVariants.{One}
use Rattle.lucid_base.specs.declared.ops.BinOp.TheVariants.{Add}
use Rattle.lucid_base.specs.declared.ops.CmpOp.TheVariants.{Eq, Lt}
use Rattle.lucid_code.specs.declared.op.Act.TheVariants as act
use Rattle.lucid_code.specs.declared.op.Literal.{Literal}
use Rattle.lucid_code.specs.declared.op.Op.{Op}
use Rattle.lucid_code.specs.Examples.{add, bare, field, fixed, is, isnt, move, op, widths}
use Rattle.lucid_pass_spec.specs.Dead.{live}
use Rattle.lucid_pass_spec.specs.Direct.{direct_ops}
use Rattle.lucid_pass_spec.specs.Looks.{changed, fold_op, copy_op}

abbrev pub same_32 : MemAlu
same_32 = record { width = 32; test = None; yes = One Stored; no = One Stored }

abbrev pub both_branches_widths : List ℕ
both_branches_widths = 32 ∷ 32 ∷ 32 ∷ 32 ∷ 32 ∷ 1 ∷ 32 ∷ 32 ∷ 32 ∷ 32 ∷ 32 ∷ []

abbrev pub both_branches_ops : List Op
both_branches_ops =
    op (is 0 1 ∷ []) 0 (act.Move (fixed 0) 4)
    ∷ op (is 0 1 ∷ []) 0 (act.Cmp Eq 32 (field 3) (fixed 0) 5)
    ∷ op (is 0 1 ∷ is 5 1 ∷ []) 0 (act.Touch 0 (fixed 0) same_32 (fixed 0) same_32 (fixed 0) (Some 6))
    ∷ op (is 0 1 ∷ is 5 1 ∷ []) 1 (act.Move (field 6) 7)
    ∷ op (is 0 1 ∷ is 5 0 ∷ []) 0 (act.Touch 0 (fixed 1) same_32 (fixed 0) same_32 (fixed 0) (Some 8))
    ∷ op (is 0 1 ∷ is 5 0 ∷ []) 1 (act.Move (field 8) 9)
    ∷ op (is 0 1 ∷ is 5 1 ∷ []) 1 (act.Move (field 7) 10)
    ∷ op (is 0 1 ∷ is 5 0 ∷ []) 1 (act.Move (field 9) 10)
    ∷ op (is 0 1 ∷ []) 1 (act.Gen 0 0 (field 10 ∷ []) (fixed 0) None)
    ∷ []

abbrev pub both_branches_dead : List Op
both_branches_dead =
    op (is 0 1 ∷ []) 0 (act.Cmp Eq 32 (field 3) (fixed 0) 5)
    ∷ op (is 0 1 ∷ is 5 1 ∷ []) 0 (act.Touch 0 (fixed 0) same_32 (fixed 0) same_32 (fixed 0) (Some 6))
    ∷ op (is 0 1 ∷ is 5 1 ∷ []) 1 (act.Move (field 6) 7)
    ∷ op (is 0 1 ∷ is 5 0 ∷ []) 0 (act.Touch 0 (fixed 1) same_32 (fixed 0) same_32 (fixed 0) (Some 8))
    ∷ op (is 0 1 ∷ is 5 0 ∷ []) 1 (act.Move (field 8) 9)
    ∷ op (is 0 1 ∷ is 5 1 ∷ []) 1 (act.Move (field 7) 10)
    ∷ op (is 0 1 ∷ is 5 0 ∷ []) 1 (act.Move (field 9) 10)
    ∷ op (is 0 1 ∷ []) 1 (act.Gen 0 0 (field 10 ∷ []) (fixed 0) None)
    ∷ []

abbrev pub both_branches_then_copies : List Op
both_branches_then_copies =
    op (is 0 1 ∷ []) 0 (act.Move (fixed 0) 4)
    ∷ op (is 0 1 ∷ []) 0 (act.Cmp Eq 32 (field 3) (fixed 0) 5)
    ∷ op (is 0 1 ∷ is 5 1 ∷ []) 0 (act.Touch 0 (fixed 0) same_32 (fixed 0) same_32 (fixed 0) (Some 6))
    ∷ op (is 0 1 ∷ is 5 1 ∷ []) 1 (act.Move (field 6) 7)
    ∷ op (is 0 1 ∷ is 5 0 ∷ []) 0 (act.Touch 0 (fixed 1) same_32 (fixed 0) same_32 (fixed 0) (Some 8))
    ∷ op (is 0 1 ∷ is 5 0 ∷ []) 1 (act.Move (field 8) 9)
    ∷ op (is 0 1 ∷ is 5 1 ∷ []) 1 (act.Move (field 6) 10)
    ∷ op (is 0 1 ∷ is 5 0 ∷ []) 1 (act.Move (field 8) 10)
    ∷ op (is 0 1 ∷ []) 1 (act.Gen 0 0 (field 10 ∷ []) (fixed 0) None)
    ∷ []

abbrev pub both_branches_then_dead : List Op
both_branches_then_dead =
    op (is 0 1 ∷ []) 0 (act.Cmp Eq 32 (field 3) (fixed 0) 5)
    ∷ op (is 0 1 ∷ is 5 1 ∷ []) 0 (act.Touch 0 (fixed 0) same_32 (fixed 0) same_32 (fixed 0) (Some 6))
    ∷ op (is 0 1 ∷ is 5 0 ∷ []) 0 (act.Touch 0 (fixed 1) same_32 (fixed 0) same_32 (fixed 0) (Some 8))
    ∷ op (is 0 1 ∷ is 5 1 ∷ []) 1 (act.Move (field 6) 10)
    ∷ op (is 0 1 ∷ is 5 0 ∷ []) 1 (act.Move (field 8) 10)
    ∷ op (is 0 1 ∷ []) 1 (act.Gen 0 0 (field 10 ∷ []) (fixed 0) None)
    ∷ []

abbrev pub both_branches_then_direct : List Op
both_branches_then_direct =
    op (is 0 1 ∷ is 3 0 ∷ []) 0 (act.Touch 0 (fixed 0) same_32 (fixed 0) same_32 (fixed 0) (Some 6))
    ∷ op (is 0 1 ∷ isnt 3 0 ∷ []) 0 (act.Touch 0 (fixed 1) same_32 (fixed 0) same_32 (fixed 0) (Some 8))
    ∷ op (is 0 1 ∷ is 3 0 ∷ []) 1 (act.Move (field 6) 10)
    ∷ op (is 0 1 ∷ isnt 3 0 ∷ []) 1 (act.Move (field 8) 10)
    ∷ op (is 0 1 ∷ []) 1 (act.Gen 0 0 (field 10 ∷ []) (fixed 0) None)
    ∷ []

abbrev pub cases_widths : List ℕ
cases_widths = 32 ∷ 32 ∷ 32 ∷ 32 ∷ 32 ∷ 32 ∷ 1 ∷ 32 ∷ 1 ∷ 32 ∷ 32 ∷ 32 ∷ 32 ∷ []

abbrev pub cases_ops : List Op
cases_ops =
    op (is 0 1 ∷ []) 0 (act.Move (fixed 0) 4)
    ∷ op (is 0 1 ∷ []) 0 (act.Move (field 3) 5)
    ∷ op (is 0 1 ∷ []) 0 (act.Cmp Eq 32 (field 5) (fixed 1) 6)
    ∷ op (is 0 1 ∷ is 6 1 ∷ []) 0 (act.Move (fixed 10) 7)
    ∷ op (is 0 1 ∷ is 6 0 ∷ []) 0 (act.Cmp Eq 32 (field 5) (fixed 2) 8)
    ∷ op (is 0 1 ∷ is 6 0 ∷ is 8 1 ∷ []) 0 (act.Move (fixed 20) 9)
    ∷ op (is 0 1 ∷ is 6 0 ∷ is 8 0 ∷ []) 0 (act.Move (fixed 30) 10)
    ∷ op (is 0 1 ∷ is 6 0 ∷ is 8 1 ∷ []) 0 (act.Move (field 9) 11)
    ∷ op (is 0 1 ∷ is 6 0 ∷ is 8 0 ∷ []) 0 (act.Move (field 10) 11)
    ∷ op (is 0 1 ∷ is 6 1 ∷ []) 0 (act.Move (field 7) 12)
    ∷ op (is 0 1 ∷ is 6 0 ∷ []) 0 (act.Move (field 11) 12)
    ∷ op (is 0 1 ∷ []) 0 (act.Gen 0 0 (field 12 ∷ []) (fixed 0) None)
    ∷ []

abbrev pub cases_dead : List Op
cases_dead =
    op (is 0 1 ∷ []) 0 (act.Move (field 3) 5)
    ∷ op (is 0 1 ∷ []) 0 (act.Cmp Eq 32 (field 5) (fixed 1) 6)
    ∷ op (is 0 1 ∷ is 6 1 ∷ []) 0 (act.Move (fixed 10) 7)
    ∷ op (is 0 1 ∷ is 6 0 ∷ []) 0 (act.Cmp Eq 32 (field 5) (fixed 2) 8)
    ∷ op (is 0 1 ∷ is 6 0 ∷ is 8 1 ∷ []) 0 (act.Move (fixed 20) 9)
    ∷ op (is 0 1 ∷ is 6 0 ∷ is 8 0 ∷ []) 0 (act.Move (fixed 30) 10)
    ∷ op (is 0 1 ∷ is 6 0 ∷ is 8 1 ∷ []) 0 (act.Move (field 9) 11)
    ∷ op (is 0 1 ∷ is 6 0 ∷ is 8 0 ∷ []) 0 (act.Move (field 10) 11)
    ∷ op (is 0 1 ∷ is 6 1 ∷ []) 0 (act.Move (field 7) 12)
    ∷ op (is 0 1 ∷ is 6 0 ∷ []) 0 (act.Move (field 11) 12)
    ∷ op (is 0 1 ∷ []) 0 (act.Gen 0 0 (field 12 ∷ []) (fixed 0) None)
    ∷ []

abbrev pub cases_then_fold : List Op
cases_then_fold =
    op (is 0 1 ∷ []) 0 (act.Move (fixed 0) 4)
    ∷ op (is 0 1 ∷ []) 0 (act.Move (field 3) 5)
    ∷ op (is 0 1 ∷ []) 0 (act.Cmp Eq 32 (field 5) (fixed 1) 6)
    ∷ op (is 0 1 ∷ is 6 1 ∷ []) 0 (act.Move (fixed 10) 7)
    ∷ op (is 0 1 ∷ is 6 0 ∷ []) 0 (act.Cmp Eq 32 (field 5) (fixed 2) 8)
    ∷ op (is 0 1 ∷ is 6 0 ∷ is 8 1 ∷ []) 0 (act.Move (fixed 20) 9)
    ∷ op (is 0 1 ∷ is 6 0 ∷ is 8 0 ∷ []) 0 (act.Move (fixed 30) 10)
    ∷ op (is 0 1 ∷ is 6 0 ∷ is 8 1 ∷ []) 0 (act.Move (fixed 20) 11)
    ∷ op (is 0 1 ∷ is 6 0 ∷ is 8 0 ∷ []) 0 (act.Move (fixed 30) 11)
    ∷ op (is 0 1 ∷ is 6 1 ∷ []) 0 (act.Move (fixed 10) 12)
    ∷ op (is 0 1 ∷ is 6 0 ∷ []) 0 (act.Move (field 11) 12)
    ∷ op (is 0 1 ∷ []) 0 (act.Gen 0 0 (field 12 ∷ []) (fixed 0) None)
    ∷ []

abbrev pub cases_then_copies : List Op
cases_then_copies =
    op (is 0 1 ∷ []) 0 (act.Move (fixed 0) 4)
    ∷ op (is 0 1 ∷ []) 0 (act.Move (field 3) 5)
    ∷ op (is 0 1 ∷ []) 0 (act.Cmp Eq 32 (field 3) (fixed 1) 6)
    ∷ op (is 0 1 ∷ is 6 1 ∷ []) 0 (act.Move (fixed 10) 7)
    ∷ op (is 0 1 ∷ is 6 0 ∷ []) 0 (act.Cmp Eq 32 (field 3) (fixed 2) 8)
    ∷ op (is 0 1 ∷ is 6 0 ∷ is 8 1 ∷ []) 0 (act.Move (fixed 20) 9)
    ∷ op (is 0 1 ∷ is 6 0 ∷ is 8 0 ∷ []) 0 (act.Move (fixed 30) 10)
    ∷ op (is 0 1 ∷ is 6 0 ∷ is 8 1 ∷ []) 0 (act.Move (fixed 20) 11)
    ∷ op (is 0 1 ∷ is 6 0 ∷ is 8 0 ∷ []) 0 (act.Move (fixed 30) 11)
    ∷ op (is 0 1 ∷ is 6 1 ∷ []) 0 (act.Move (fixed 10) 12)
    ∷ op (is 0 1 ∷ is 6 0 ∷ []) 0 (act.Move (field 11) 12)
    ∷ op (is 0 1 ∷ []) 0 (act.Gen 0 0 (field 12 ∷ []) (fixed 0) None)
    ∷ []

abbrev pub cases_then_dead : List Op
cases_then_dead =
    op (is 0 1 ∷ []) 0 (act.Cmp Eq 32 (field 3) (fixed 1) 6)
    ∷ op (is 0 1 ∷ is 6 0 ∷ []) 0 (act.Cmp Eq 32 (field 3) (fixed 2) 8)
    ∷ op (is 0 1 ∷ is 6 0 ∷ is 8 1 ∷ []) 0 (act.Move (fixed 20) 11)
    ∷ op (is 0 1 ∷ is 6 0 ∷ is 8 0 ∷ []) 0 (act.Move (fixed 30) 11)
    ∷ op (is 0 1 ∷ is 6 1 ∷ []) 0 (act.Move (fixed 10) 12)
    ∷ op (is 0 1 ∷ is 6 0 ∷ []) 0 (act.Move (field 11) 12)
    ∷ op (is 0 1 ∷ []) 0 (act.Gen 0 0 (field 12 ∷ []) (fixed 0) None)
    ∷ []

abbrev pub cases_then_direct : List Op
cases_then_direct =
    op (is 0 1 ∷ isnt 3 1 ∷ is 3 2 ∷ []) 0 (act.Move (fixed 20) 11)
    ∷ op (is 0 1 ∷ isnt 3 1 ∷ isnt 3 2 ∷ []) 0 (act.Move (fixed 30) 11)
    ∷ op (is 0 1 ∷ is 3 1 ∷ []) 0 (act.Move (fixed 10) 12)
    ∷ op (is 0 1 ∷ isnt 3 1 ∷ []) 0 (act.Move (field 11) 12)
    ∷ op (is 0 1 ∷ []) 0 (act.Gen 0 0 (field 12 ∷ []) (fixed 0) None)
    ∷ []

-- ---- one rule each, on the fields of lucid_code's examples: inputs of 32, 32, 32 and 16 bits, then fields of 8, 1, 8 and 16 bits

abbrev pub fold : List Op → List Op
fold = changed (fold_op widths) []

abbrev pub copy : List Op → List Op
copy = changed (copy_op widths) []

abbrev pub test : List Op → List Op
test = direct_ops widths

-- A reader of field k, under this guard.
abbrev pub reader : List Literal → ℕ → Op
reader guard k = op guard 0 (act.Say 0 3 (field k ∷ []))

-- A comparison of field 3 with 7, for field 5.
abbrev pub equals_seven : Op
equals_seven = bare (act.Cmp Eq 16 (field 3) (fixed 7) 5)

pub record PassExamples : Type 0 where
  -- an array is called in both branches
  pub dead_alone_of_both_branches : live both_branches_ops ≡ both_branches_dead
  pub fold_of_both_branches : changed (fold_op both_branches_widths) [] both_branches_ops ≡ both_branches_ops
  pub copies_of_both_branches : changed (copy_op both_branches_widths) [] both_branches_ops ≡ both_branches_then_copies
  pub dead_of_both_branches : live both_branches_then_copies ≡ both_branches_then_dead
  pub direct_of_both_branches : direct_ops both_branches_widths both_branches_then_dead ≡ both_branches_then_direct
  -- one of three cases
  pub dead_alone_of_cases : live cases_ops ≡ cases_dead
  pub fold_of_cases : changed (fold_op cases_widths) [] cases_ops ≡ cases_then_fold
  pub copies_of_cases : changed (copy_op cases_widths) [] cases_then_fold ≡ cases_then_copies
  pub dead_of_cases : live cases_then_copies ≡ cases_then_dead
  pub direct_of_cases : direct_ops cases_widths cases_then_dead ≡ cases_then_direct
  -- `Fold`: 300 is 44 in 8 bits, and 44 + 250 is 38; the result is a move, which the next reader looks through
  pub folds_on : fold (bare (act.Move (fixed 300) 4) ∷ bare (act.Bin Add 8 (field 4) (fixed 250) 6) ∷ reader [] 6 ∷ [])
      ≡ bare (act.Move (fixed 300) 4) ∷ bare (act.Move (fixed 38) 6) ∷ bare (act.Say 0 3 (fixed 38 ∷ [])) ∷ []
  pub folds_comparison : fold (bare (act.Cmp Lt 8 (fixed 256) (fixed 1) 5) ∷ []) ≡ bare (act.Move (fixed 1) 5) ∷ []
  pub folds_under_guard : fold (op (is 0 1 ∷ []) 0 (act.Move (fixed 9) 4) ∷ reader (is 3 2 ∷ is 0 1 ∷ []) 4 ∷ [])
      ≡ op (is 0 1 ∷ []) 0 (act.Move (fixed 9) 4) ∷ op (is 3 2 ∷ is 0 1 ∷ []) 0 (act.Say 0 3 (fixed 9 ∷ [])) ∷ []
  pub other_guard_stays : fold (op (is 0 1 ∷ []) 0 (act.Move (fixed 9) 4) ∷ reader (isnt 0 2 ∷ []) 4 ∷ []) ≡ op (is 0 1 ∷ []) 0 (act.Move (fixed 9) 4) ∷ reader (isnt 0 2 ∷ []) 4 ∷ []
  pub two_writers_stay : fold (op (is 0 1 ∷ []) 0 (act.Move (fixed 9) 4) ∷ op (is 0 2 ∷ []) 0 (act.Move (fixed 8) 4) ∷ reader (is 0 1 ∷ []) 4 ∷ [])
      ≡ op (is 0 1 ∷ []) 0 (act.Move (fixed 9) 4) ∷ op (is 0 2 ∷ []) 0 (act.Move (fixed 8) 4) ∷ reader (is 0 1 ∷ []) 4 ∷ []
  pub guards_stay : fold (bare (act.Move (fixed 1) 5) ∷ reader (is 5 1 ∷ []) 3 ∷ []) ≡ bare (act.Move (fixed 1) 5) ∷ reader (is 5 1 ∷ []) 3 ∷ []
  -- `Copies`: through two moves of 16 bits, and not through one of 16 bits to 8
  pub copies_on : copy (bare (act.Move (field 3) 7) ∷ reader [] 7 ∷ []) ≡ bare (act.Move (field 3) 7) ∷ reader [] 3 ∷ []
  pub narrow_stays : copy (bare (act.Move (field 3) 4) ∷ reader [] 4 ∷ []) ≡ bare (act.Move (field 3) 4) ∷ reader [] 4 ∷ []
  pub number_stays : copy (bare (act.Move (fixed 3) 4) ∷ reader [] 4 ∷ []) ≡ bare (act.Move (fixed 3) 4) ∷ reader [] 4 ∷ []
  -- `Dead`: with the reader of a field its writer is removed; a call of an array stays
  pub dead_with_reader : live (move 4 ∷ bare (act.Move (field 4) 6) ∷ reader [] 3 ∷ []) ≡ reader [] 3 ∷ []
  pub call_stays : live (bare (add (fixed 0) (fixed 1) (Some 7)) ∷ []) ≡ bare (add (fixed 0) (fixed 1) (Some 7)) ∷ []
  -- `Direct`: the four literals of a comparison's field, and a literal that then occurs twice
  pub says_it_holds : test (equals_seven ∷ reader (is 5 1 ∷ []) 3 ∷ reader (isnt 5 0 ∷ []) 3 ∷ []) ≡ reader (is 3 7 ∷ []) 3 ∷ reader (is 3 7 ∷ []) 3 ∷ []
  pub says_it_does_not : test (equals_seven ∷ reader (is 5 0 ∷ []) 3 ∷ reader (isnt 5 1 ∷ []) 3 ∷ []) ≡ reader (isnt 3 7 ∷ []) 3 ∷ reader (isnt 3 7 ∷ []) 3 ∷ []
  pub once_only : test (equals_seven ∷ reader (is 3 7 ∷ is 0 1 ∷ is 5 1 ∷ []) 3 ∷ []) ≡ reader (is 3 7 ∷ is 0 1 ∷ []) 3 ∷ []
  pub read_comparison_stays : test (equals_seven ∷ reader (is 5 1 ∷ []) 5 ∷ []) ≡ equals_seven ∷ reader (is 3 7 ∷ []) 5 ∷ []
  pub uncovered_stays : test (op (is 0 1 ∷ []) 0 (act.Cmp Eq 16 (field 3) (fixed 7) 5) ∷ reader (is 5 1 ∷ []) 3 ∷ [])
      ≡ op (is 0 1 ∷ []) 0 (act.Cmp Eq 16 (field 3) (fixed 7) 5) ∷ reader (is 5 1 ∷ []) 3 ∷ []
  pub number_first_stays : test (bare (act.Cmp Eq 16 (fixed 7) (field 3) 5) ∷ reader (is 5 1 ∷ []) 3 ∷ []) ≡ bare (act.Cmp Eq 16 (fixed 7) (field 3) 5) ∷ reader (is 5 1 ∷ []) 3 ∷ []
  pub narrow_comparison_stays : test (bare (act.Cmp Eq 8 (field 3) (fixed 7) 5) ∷ reader (is 5 1 ∷ []) 3 ∷ []) ≡ bare (act.Cmp Eq 8 (field 3) (fixed 7) 5) ∷ reader (is 5 1 ∷ []) 3 ∷ []
  pub wide_number_stays : test (bare (act.Cmp Eq 16 (field 3) (fixed 65543) 5) ∷ reader (is 5 1 ∷ []) 3 ∷ []) ≡ bare (act.Cmp Eq 16 (field 3) (fixed 65543) 5) ∷ reader (is 5 1 ∷ []) 3 ∷ []
  pub other_comparison_stays : test (bare (act.Cmp Lt 16 (field 3) (fixed 7) 5) ∷ reader (is 5 1 ∷ []) 3 ∷ []) ≡ bare (act.Cmp Lt 16 (field 3) (fixed 7) 5) ∷ reader (is 5 1 ∷ []) 3 ∷ []
