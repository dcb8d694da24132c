-- Code that is worked by hand through the passes of this crate, on the fields of lucid_code's examples: inputs of 32, 32, 32 and 16 bits, then
-- fields of 8, 1, 8 and 16 bits.
use Rattle.std.specs.Prelude.{◌≡◌, ℕ, List, [], ◌∷◌, ◌++◌, Some, None}
use Rattle.lucid_base.specs.declared.ops.BinOp.TheVariants.{Add}
use Rattle.lucid_base.specs.declared.ops.CmpOp.TheVariants.{Eq, Ne}
use Rattle.lucid_base.specs.declared.ops.UnOp.TheVariants.{Neg}
use Rattle.lucid_code.specs.declared.op.Act.{Act}
use Rattle.lucid_code.specs.declared.op.Act.TheVariants as act
use Rattle.lucid_code.specs.declared.op.Op.{Op}
use Rattle.lucid_code.specs.Examples.{add, bare, field, fixed, is, isnt, move, op, widths}
use Rattle.lucid_pass_spec.specs.Examples.{copy, reader}
use Rattle.lucid_pass_more_spec.specs.Casts.{uncast_ops}
use Rattle.lucid_pass_more_spec.specs.Lift.{lift_ops}
use Rattle.lucid_pass_more_spec.specs.Merge.{merged_ops}
use Rattle.lucid_pass_more_spec.specs.Sources.{source_ops}

-- A sum of field 3 and 1 in 16 bits, for field 7.
abbrev pub sum : Act
sum = act.Bin Add 16 (field 3) (fixed 1) 7

abbrev pub source : List Op → List Op
source = source_ops widths

-- Field 5 says that field 3 differs from 7.
abbrev pub differs_from_seven : Op
differs_from_seven = bare (act.Cmp Ne 16 (field 3) (fixed 7) 5)

-- With one field more, of 16 bits.
abbrev pub merge : List Op → List Op
merge = merged_ops (widths ++ 16 ∷ [])

-- A call for event 1 that answers in field 7, and a move of the answer.
abbrev pub call : ℕ → Op
call k = op (is 0 1 ∷ []) 0 (add (fixed 0) (fixed 1) (Some k))

abbrev pub answer_to : ℕ → Op
answer_to k = op (is 0 1 ∷ []) 1 (act.Move (field 7) k)

pub record MoreExamples : Type 0 where
  -- `Casts`: of a field and of a number, under a guard; other acts stay
  pub cast_moves : uncast_ops (op (is 0 1 ∷ []) 2 (act.Cast (field 3) 7) ∷ bare (act.Cast (fixed 300) 4) ∷ []) ≡ op (is 0 1 ∷ []) 2 (act.Move (field 3) 7) ∷ bare (act.Move (fixed 300) 4) ∷ []
  pub others_stay : uncast_ops (move 4 ∷ bare (act.Un Neg 16 (field 3) 7) ∷ bare (add (fixed 0) (field 7) None) ∷ reader (is 4 1 ∷ []) 7 ∷ [])
      ≡ move 4 ∷ bare (act.Un Neg 16 (field 3) 7) ∷ bare (add (fixed 0) (field 7) None) ∷ reader (is 4 1 ∷ []) 7 ∷ []
  -- `Copies` does not see through a cast to a wider field, and does after `Casts`
  pub copies_stop : copy (bare (act.Cast (field 3) 7) ∷ reader [] 7 ∷ []) ≡ bare (act.Cast (field 3) 7) ∷ reader [] 7 ∷ []
  pub copies_go_on : copy (uncast_ops (bare (act.Cast (field 3) 7) ∷ reader [] 7 ∷ [])) ≡ bare (act.Move (field 3) 7) ∷ reader [] 3 ∷ []
  -- a cast to fewer bits is still no source
  pub narrow_stops : copy (uncast_ops (bare (act.Cast (field 3) 4) ∷ reader [] 4 ∷ [])) ≡ bare (act.Move (field 3) 4) ∷ reader [] 4 ∷ []
  -- `Lift`: a sum and its reader in a branch: the sum no longer waits for the branch, and stays in its event
  pub lifts : lift_ops (op (is 0 1 ∷ is 5 1 ∷ []) 0 sum ∷ reader (is 0 1 ∷ is 5 1 ∷ []) 7 ∷ []) ≡ op (is 0 1 ∷ []) 0 sum ∷ reader (is 0 1 ∷ is 5 1 ∷ []) 7 ∷ []
  -- the order of literals in a guard is of no account
  pub in_any_order : lift_ops (op (is 5 1 ∷ isnt 3 2 ∷ []) 0 sum ∷ reader (isnt 3 2 ∷ is 5 1 ∷ []) 7 ∷ []) ≡ op [] 0 sum ∷ reader (isnt 3 2 ∷ is 5 1 ∷ []) 7 ∷ []
  -- a literal that one of two readers lacks stays
  pub other_reader_stays : lift_ops (op (is 3 2 ∷ is 5 1 ∷ []) 0 sum ∷ reader (is 3 2 ∷ is 5 1 ∷ []) 7 ∷ reader (is 5 1 ∷ []) 7 ∷ [])
      ≡ op (is 3 2 ∷ []) 0 sum ∷ reader (is 3 2 ∷ is 5 1 ∷ []) 7 ∷ reader (is 5 1 ∷ []) 7 ∷ []
  -- of two writers each keeps the literal that tells them apart
  pub writers_stay_apart : lift_ops (op (is 3 2 ∷ is 5 1 ∷ []) 0 sum ∷ op (is 3 2 ∷ is 5 0 ∷ []) 0 (act.Move (fixed 9) 7) ∷ reader (is 3 2 ∷ []) 7 ∷ [])
      ≡ op (is 5 1 ∷ []) 0 sum ∷ op (is 5 0 ∷ []) 0 (act.Move (fixed 9) 7) ∷ reader (is 3 2 ∷ []) 7 ∷ []
  -- guards that contradict themselves are not lifted from, since another writer may rely on them
  pub never_stays : lift_ops (op (is 3 2 ∷ []) 0 sum ∷ op (is 3 2 ∷ is 3 4 ∷ []) 0 (act.Move (fixed 9) 7) ∷ reader (is 3 2 ∷ []) 7 ∷ [])
      ≡ op (is 3 2 ∷ []) 0 sum ∷ op (is 3 2 ∷ is 3 4 ∷ []) 0 (act.Move (fixed 9) 7) ∷ reader (is 3 2 ∷ []) 7 ∷ []
  -- a reader's own test of the field is no reason to drop it
  pub own_test_stays : lift_ops (op (is 3 2 ∷ []) 0 sum ∷ reader (is 7 5 ∷ []) 3 ∷ []) ≡ op (is 3 2 ∷ []) 0 sum ∷ reader (is 7 5 ∷ []) 3 ∷ []
  -- calls, events and prints have effects
  pub call_stays : lift_ops (op (is 5 1 ∷ []) 0 (add (fixed 0) (fixed 1) (Some 7)) ∷ reader (is 5 1 ∷ []) 7 ∷ []) ≡ op (is 5 1 ∷ []) 0 (add (fixed 0) (fixed 1) (Some 7)) ∷ reader (is 5 1 ∷ []) 7 ∷ []
  pub print_stays : lift_ops (reader (is 5 1 ∷ []) 3 ∷ []) ≡ reader (is 5 1 ∷ []) 3 ∷ []
  pub event_stays : lift_ops (op (is 5 1 ∷ []) 0 (act.Gen 0 0 [] (fixed 0) None) ∷ []) ≡ op (is 5 1 ∷ []) 0 (act.Gen 0 0 [] (fixed 0) None) ∷ []
  -- beside a call that writes the same field
  pub beside_call : lift_ops (op (is 3 2 ∷ is 5 1 ∷ []) 0 (add (fixed 0) (fixed 1) (Some 7)) ∷ op (is 3 2 ∷ is 5 0 ∷ []) 0 sum ∷ reader (is 3 2 ∷ []) 7 ∷ [])
      ≡ op (is 3 2 ∷ is 5 1 ∷ []) 0 (add (fixed 0) (fixed 1) (Some 7)) ∷ op (is 5 0 ∷ []) 0 sum ∷ reader (is 3 2 ∷ []) 7 ∷ []
  -- `Sources`: a move of a field of the same width, and the four literals of an inequality
  pub tests_source : source (bare (act.Move (field 3) 7) ∷ reader (is 7 5 ∷ isnt 7 6 ∷ []) 7 ∷ []) ≡ bare (act.Move (field 3) 7) ∷ reader (is 3 5 ∷ isnt 3 6 ∷ []) 7 ∷ []
  pub says_they_differ : source (differs_from_seven ∷ reader (is 5 1 ∷ []) 3 ∷ reader (isnt 5 0 ∷ []) 3 ∷ []) ≡ differs_from_seven ∷ reader (isnt 3 7 ∷ []) 3 ∷ reader (isnt 3 7 ∷ []) 3 ∷ []
  pub says_they_do_not : source (differs_from_seven ∷ reader (is 5 0 ∷ []) 3 ∷ reader (isnt 5 1 ∷ []) 3 ∷ []) ≡ differs_from_seven ∷ reader (is 3 7 ∷ []) 3 ∷ reader (is 3 7 ∷ []) 3 ∷ []
  -- a narrower field, a second writer, and a reader outside the guard of the writer
  pub narrow_source_stays : source (bare (act.Move (field 3) 4) ∷ reader (is 4 5 ∷ []) 3 ∷ []) ≡ bare (act.Move (field 3) 4) ∷ reader (is 4 5 ∷ []) 3 ∷ []
  pub two_sources_stay : source (op (is 0 1 ∷ []) 0 (act.Move (field 3) 7) ∷ op (is 0 2 ∷ []) 0 (act.Move (fixed 3) 7) ∷ reader (is 0 1 ∷ is 7 5 ∷ []) 3 ∷ [])
      ≡ op (is 0 1 ∷ []) 0 (act.Move (field 3) 7) ∷ op (is 0 2 ∷ []) 0 (act.Move (fixed 3) 7) ∷ reader (is 0 1 ∷ is 7 5 ∷ []) 3 ∷ []
  pub outside_stays : source (op (is 0 1 ∷ []) 0 (act.Move (field 3) 7) ∷ reader (is 7 5 ∷ []) 3 ∷ []) ≡ op (is 0 1 ∷ []) 0 (act.Move (field 3) 7) ∷ reader (is 7 5 ∷ []) 3 ∷ []
  pub inside_goes : source (op (is 0 1 ∷ []) 0 (act.Move (field 3) 7) ∷ reader (is 7 5 ∷ is 0 1 ∷ []) 3 ∷ []) ≡ op (is 0 1 ∷ []) 0 (act.Move (field 3) 7) ∷ reader (is 3 5 ∷ is 0 1 ∷ []) 3 ∷ []
  -- a comparison of fewer bits, with a number that does not fit, or by another operator
  pub fewer_bits_stay : source (bare (act.Cmp Ne 8 (field 3) (fixed 7) 5) ∷ reader (is 5 1 ∷ []) 3 ∷ []) ≡ bare (act.Cmp Ne 8 (field 3) (fixed 7) 5) ∷ reader (is 5 1 ∷ []) 3 ∷ []
  pub wide_number_stays : source (bare (act.Cmp Ne 16 (field 3) (fixed 65543) 5) ∷ reader (is 5 1 ∷ []) 3 ∷ []) ≡ bare (act.Cmp Ne 16 (field 3) (fixed 65543) 5) ∷ reader (is 5 1 ∷ []) 3 ∷ []
  pub equality_stays : source (bare (act.Cmp Eq 16 (field 3) (fixed 7) 5) ∷ reader (is 5 1 ∷ []) 3 ∷ []) ≡ bare (act.Cmp Eq 16 (field 3) (fixed 7) 5) ∷ reader (is 5 1 ∷ []) 3 ∷ []
  -- `Merge`: the call writes the field, and the move is left for `Dead`
  pub merges : merge (call 7 ∷ answer_to 8 ∷ reader [] 8 ∷ []) ≡ call 8 ∷ op (is 0 1 ∷ []) 1 (act.Move (fixed 0) 7) ∷ reader [] 8 ∷ []
  -- another reader of the answer, another guard, a narrower field, and what is no call
  pub read_answer_stays : merge (call 7 ∷ answer_to 8 ∷ reader [] 7 ∷ []) ≡ call 7 ∷ answer_to 8 ∷ reader [] 7 ∷ []
  pub other_guard_stays : merge (bare (add (fixed 0) (fixed 1) (Some 7)) ∷ answer_to 8 ∷ []) ≡ bare (add (fixed 0) (fixed 1) (Some 7)) ∷ answer_to 8 ∷ []
  pub narrow_answer_stays : merge (call 7 ∷ answer_to 4 ∷ []) ≡ call 7 ∷ answer_to 4 ∷ []
  pub sum_stays : merge (op (is 0 1 ∷ []) 0 sum ∷ answer_to 8 ∷ []) ≡ op (is 0 1 ∷ []) 0 sum ∷ answer_to 8 ∷ []
