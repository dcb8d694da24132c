-- Small handlers and the operations that they become, written by hand from the rules. Each handler is of event 0, whose two arguments of
-- 32 bits are fields 3 and 4, and has locals of 32 bits: the two parameters and, if not said otherwise, one more. There are two arrays.
use Rattle.std.specs.Prelude.{◌≡◌, ℕ, List, [], ◌∷◌, None, Some, true, false}
use Rattle.lucid_base.specs.declared.array.ArrayName.TheVariants.{Global}
use Rattle.lucid_base.specs.declared.memory_alu.MemAlu.{MemAlu}
use Rattle.lucid_base.specs.declared.ops.BinOp.TheVariants.{Add}
use Rattle.lucid_base.specs.declared.ops.CmpOp.TheVariants.{Lt}
use Rattle.lucid_base.specs.declared.ops.UnOp.TheVariants.{Neg}
use Rattle.lucid_code.specs.declared.op.Act.{Act}
use Rattle.lucid_code.specs.declared.op.Act.TheVariants as act
use Rattle.lucid_code.specs.declared.op.Literal.{Literal}
use Rattle.lucid_code.specs.declared.op.Op.{Op}
use Rattle.lucid_code.specs.declared.op.Operand.{Operand}
use Rattle.lucid_code.specs.Examples.{field, fixed, is, op}
use Rattle.lucid_core.specs.declared.body.Expr.{Expr}
use Rattle.lucid_core.specs.declared.body.Stmt.{Stmt}
use Rattle.lucid_core.specs.declared.body.Expr.TheOpen.{Expr-F}
use Rattle.lucid_core.specs.declared.body.Expr.TheViews.{roll-Expr, roll-Touch}
use Rattle.lucid_core.specs.ExamplePrograms.{array, assign, choose, drop_value, flat, generate, generate_with, handler, hash, inlined, less, local, note, number, one, plus, return, say, update, update_with, yes}
use Rattle.lucid_core.specs.Parts.{CoreParts}
use Rattle.lucid_normal_spec.specs.Program.{all_codes, translate}

-- ---- more words for programs

abbrev pub minus : Expr → Expr
minus x = roll-Expr (Expr-F.Un Neg x)

abbrev pub sum : Expr → Expr → Expr
sum x y = roll-Expr (Expr-F.Bin Add x y)

abbrev pub cast : ℕ → Expr → Expr
cast w x = roll-Expr (Expr-F.Cast w x)

abbrev pub now : Expr
now = roll-Expr Expr-F.Now

abbrev pub me : Expr
me = roll-Expr Expr-F.Me

-- i < 1, which is a condition that needs no move
abbrev pub is_small : Expr
is_small = less (local 0) one

-- Array.update(a, i, plus, 1, plus, 1)
abbrev pub updated : ℕ → Expr
updated a = update (Global a) (local 0) plus

-- Adds to cell 0 of an array, and gives no value.
abbrev pub add_to : ℕ → Expr → Stmt
add_to a x = drop_value (roll-Expr (Expr-F.Array (roll-Touch (
    record { array = Global a; index = number 0; get = plus; get_arg = one; set = plus; set_arg = x; answers = false }))))

-- A call of an array of one bit, which is a condition without a move.
abbrev pub bit_plus : MemAlu
bit_plus = record plus { width = 1 }

abbrev pub set_bit : Expr
set_bit = update_with (Global 0) (number 0) bit_plus yes yes

abbrev pub print : Expr → Stmt
print x = say 0 (x ∷ [])

-- An inlined body, whose parameter is local 3 with the argument i.
abbrev pub put_in : List Stmt → Expr
put_in ss = inlined ((3, local 0) ∷ []) ss

abbrev pub gives : Expr → List Stmt
gives x = return (Some x) ∷ []

-- With locals of these widths, or with an array of one bit.
abbrev pub flat_with : List ℕ → List Stmt → CoreParts
flat_with locals ss = record (flat []) { handlers = record (handler ss) { locals = locals } ∷ [] }

abbrev pub four : List Stmt → CoreParts
four ss = flat_with (32 ∷ 32 ∷ 32 ∷ 32 ∷ []) ss

abbrev pub over_bits : List Stmt → CoreParts
over_bits ss = record (flat ss) { arrays = record (array 4) { width = 1 } ∷ [] }

-- ---- words for operations

-- An operation for event 0 at a level, under the conditions of these fields too.
abbrev pub under : List Literal → ℕ → Act → Op
under guard level a = op (is 0 0 ∷ guard) level a

abbrev pub plain : Act → Op
plain a = under [] 0 a

-- Where field c is 1, and where it is 0.
abbrev pub where_1 : ℕ → Act → Op
where_1 c a = under (is c 1 ∷ []) 0 a

abbrev pub where_0 : ℕ → Act → Op
where_0 c a = under (is c 0 ∷ []) 0 a

abbrev pub move : Operand → ℕ → Act
move a k = act.Move a k

abbrev pub compare : Operand → ℕ → Act
compare a k = act.Cmp Lt 32 a (fixed 1) k

abbrev pub negate : Operand → ℕ → Act
negate a k = act.Un Neg 32 a k

abbrev pub update_act : ℕ → ℕ → Act
update_act a k = act.Touch a (field 3) plus (fixed 1) plus (fixed 1) (Some k)

abbrev pub add_act : ℕ → Operand → Act
add_act a x = act.Touch a (fixed 0) plus (fixed 1) plus x None

abbrev pub print_act : ℕ → Operand → Act
print_act slot a = act.Say slot 0 (a ∷ [])

-- An event for the own switch, at once.
abbrev pub send_act : ℕ → List Operand → Act
send_act slot args = act.Gen slot 0 args (fixed 0) None

-- Its handlers become these operations, which write fields of these widths behind the inputs.
abbrev pub Becomes : CoreParts → List ℕ → List Op → Type 0
Becomes parts more ops = all_codes parts ≡ record { ops = ops; widths = 32 ∷ 32 ∷ 32 ∷ 32 ∷ 32 ∷ more; fine = true }

-- Each form.
pub record FormExamples : Type 0 where
  pub nothing : Becomes (flat []) [] []
  pub fixed_number : Becomes (flat (assign 2 one ∷ [])) (32 ∷ []) (plain (move (fixed 1) 5) ∷ [])
  -- a local's field is new with each assignment
  pub locals : Becomes (flat (assign 2 (local 0) ∷ assign 0 (local 2) ∷ assign 0 (local 0) ∷ [])) (32 ∷ 32 ∷ 32 ∷ [])
      (plain (move (field 3) 5) ∷ plain (move (field 5) 6) ∷ plain (move (field 6) 7) ∷ [])
  pub unary : Becomes (flat (assign 2 (minus (local 0)) ∷ []))
      (32 ∷ 32 ∷ []) (plain (negate (field 3) 5) ∷ plain (move (field 5) 6) ∷ [])
  pub binary : Becomes (flat (assign 2 (sum (local 0) (minus (local 1))) ∷ [])) (32 ∷ 32 ∷ 32 ∷ [])
      (plain (negate (field 4) 5) ∷ plain (act.Bin Add 32 (field 3) (field 5) 6) ∷ plain (move (field 6) 7) ∷ [])
  pub comparison_cast : Becomes (flat (assign 2 (cast 32 is_small) ∷ [])) (1 ∷ 32 ∷ 32 ∷ [])
      (plain (compare (field 3) 5) ∷ plain (act.Cast (field 5) 6) ∷ plain (move (field 6) 7) ∷ [])
  pub hashed : Becomes (flat (assign 2 (hash 7 (local 0)) ∷ []))
      (32 ∷ 32 ∷ []) (plain (act.Hash (fixed 7 ∷ field 3 ∷ []) 5) ∷ plain (move (field 5) 6) ∷ [])
  pub tick_and_switch : Becomes (flat (assign 2 (sum now me) ∷ []))
      (32 ∷ 32 ∷ []) (plain (act.Bin Add 32 (field 1) (field 2) 5) ∷ plain (move (field 5) 6) ∷ [])
  -- behind a call of array 0 the level is 1; a call writes a field where it answers, though nothing holds it
  pub calls : Becomes (flat (assign 2 (updated 0) ∷ add_to 1 (local 2) ∷ [])) (32 ∷ 32 ∷ [])
      (plain (update_act 0 5) ∷ under [] 1 (move (field 5) 6) ∷ under [] 1 (add_act 1 (field 6)) ∷ [])
  pub dropped : Becomes (flat (drop_value (updated 0) ∷ drop_value (local 0) ∷ [])) (32 ∷ []) (plain (update_act 0 5) ∷ [])
  pub sent_and_printed : Becomes (flat (print (local 0) ∷ generate 0 (local 0 ∷ one ∷ []) ∷ [])) []
      (plain (print_act 0 (field 3)) ∷ plain (send_act 1 (field 3 ∷ fixed 1 ∷ [])) ∷ [])
  pub delay_first : Becomes (flat (generate_with 0 [] (Some (minus (local 0))) (Some (minus (local 1))) true ∷ [])) (32 ∷ 32 ∷ [])
      (plain (negate (field 3) 5) ∷ plain (negate (field 4) 6) ∷ plain (act.Gen 0 0 [] (field 5) (Some (field 6))) ∷ [])
  pub target_first : Becomes (flat (generate_with 0 [] (Some (minus (local 0))) (Some (minus (local 1))) false ∷ [])) (32 ∷ 32 ∷ [])
      (plain (negate (field 4) 5) ∷ plain (negate (field 3) 6) ∷ plain (act.Gen 0 0 [] (field 6) (Some (field 5))) ∷ [])
  -- a group of two switches, as it is in a flat core
  pub group : Becomes (flat (assign 2 (local 0) ∷ generate_with 0 (local 2 ∷ []) None (Some (number 4)) false
      ∷ generate_with 0 (local 2 ∷ []) None (Some (number 2)) false ∷ []))
      (32 ∷ [])
      (plain (move (field 3) 5) ∷ plain (act.Gen 0 0 (field 5 ∷ []) (fixed 0) (Some (fixed 4)))
      ∷ plain (act.Gen 1 0 (field 5 ∷ []) (fixed 0) (Some (fixed 2))) ∷ [])

-- Ifs and inlined calls.
pub record BranchExamples : Type 0 where
  -- conditions
  pub of_comparison : Becomes (flat (choose is_small (print (local 0) ∷ []) (print one ∷ []) ∷ [])) (1 ∷ [])
      (plain (compare (field 3) 5) ∷ where_1 5 (print_act 0 (field 3)) ∷ where_0 5 (print_act 0 (fixed 1)) ∷ [])
  pub of_truth : Becomes (flat (choose yes (print one ∷ []) [] ∷ []))
      (1 ∷ []) (plain (move (fixed 1) 5) ∷ where_1 5 (print_act 0 (fixed 1)) ∷ [])
  pub of_local : Becomes (flat_with (32 ∷ 32 ∷ 1 ∷ []) (assign 2 is_small ∷ choose (local 2) (print one ∷ []) [] ∷ []))
      (1 ∷ 1 ∷ 1 ∷ [])
      (plain (compare (field 3) 5) ∷ plain (move (field 5) 6) ∷ plain (move (field 6) 7) ∷ where_1 7 (print_act 0 (fixed 1)) ∷ [])
  pub of_call : Becomes (four (choose (put_in (gives (less (local 3) one))) (print one ∷ []) [] ∷ [])) (1 ∷ 1 ∷ [])
      (plain (compare (field 3) 5) ∷ plain (move (field 5) 6) ∷ where_1 6 (print_act 0 (fixed 1)) ∷ [])
  pub of_array_call : Becomes (over_bits (choose set_bit (print one ∷ []) [] ∷ [])) (1 ∷ [])
      (plain (act.Touch 0 (fixed 0) bit_plus (fixed 1) bit_plus (fixed 1) (Some 5)) ∷ under (is 5 1 ∷ []) 1 (print_act 0 (fixed 1))
      ∷ [])
  -- joins: of a parameter, of two in the order of their numbers, of one that both branches assign, and none of a local that nothing holds
  pub joined : Becomes (flat (choose is_small (assign 0 one ∷ []) [] ∷ [])) (1 ∷ 32 ∷ 32 ∷ [])
      (plain (compare (field 3) 5) ∷ where_1 5 (move (fixed 1) 6) ∷ where_1 5 (move (field 6) 7) ∷ where_0 5 (move (field 3) 7)
      ∷ [])
  pub joined_in_order : Becomes (flat (choose is_small (assign 1 one ∷ assign 0 one ∷ []) [] ∷ [])) (1 ∷ 32 ∷ 32 ∷ 32 ∷ 32 ∷ [])
      (plain (compare (field 3) 5) ∷ where_1 5 (move (fixed 1) 6) ∷ where_1 5 (move (fixed 1) 7)
      ∷ where_1 5 (move (field 7) 8) ∷ where_0 5 (move (field 3) 8) ∷ where_1 5 (move (field 6) 9) ∷ where_0 5 (move (field 4) 9)
      ∷ [])
  pub joined_once : Becomes (flat (choose is_small (assign 0 one ∷ []) (assign 0 (local 1) ∷ []) ∷ [])) (1 ∷ 32 ∷ 32 ∷ 32 ∷ [])
      (plain (compare (field 3) 5) ∷ where_1 5 (move (fixed 1) 6) ∷ where_0 5 (move (field 4) 7) ∷ where_1 5 (move (field 6) 8)
      ∷ where_0 5 (move (field 7) 8) ∷ [])
  pub not_held : Becomes (flat (choose is_small (assign 2 one ∷ []) [] ∷ []))
      (1 ∷ 32 ∷ []) (plain (compare (field 3) 5) ∷ where_1 5 (move (fixed 1) 6) ∷ [])
  -- a guard has its outer literals first
  pub nested : Becomes (flat (choose is_small (choose (less (local 1) one) (assign 0 one ∷ []) [] ∷ []) [] ∷ []))
      (1 ∷ 1 ∷ 32 ∷ 32 ∷ 32 ∷ [])
      (plain (compare (field 3) 5) ∷ where_1 5 (compare (field 4) 6) ∷ under (is 5 1 ∷ is 6 1 ∷ []) 0 (move (fixed 1) 7)
      ∷ under (is 5 1 ∷ is 6 1 ∷ []) 0 (move (field 7) 8) ∷ under (is 5 1 ∷ is 6 0 ∷ []) 0 (move (field 3) 8)
      ∷ where_1 5 (move (field 8) 9) ∷ where_0 5 (move (field 3) 9) ∷ [])
  -- joins are at the if's end, here at level 1 by a call in either branch, and so are the later operations
  pub level_of_joins : Becomes (flat (choose is_small (assign 0 (updated 0) ∷ []) [] ∷ add_to 1 (local 0) ∷ []))
      (1 ∷ 32 ∷ 32 ∷ 32 ∷ [])
      (plain (compare (field 3) 5) ∷ where_1 5 (update_act 0 6) ∷ under (is 5 1 ∷ []) 1 (move (field 6) 7)
      ∷ under (is 5 1 ∷ []) 1 (move (field 7) 8) ∷ under (is 5 0 ∷ []) 1 (move (field 3) 8) ∷ under [] 1 (add_act 1 (field 8)) ∷ [])
  pub level_of_second : Becomes (flat (choose is_small [] (assign 0 (updated 0) ∷ []) ∷ add_to 1 (local 0) ∷ []))
      (1 ∷ 32 ∷ 32 ∷ 32 ∷ [])
      (plain (compare (field 3) 5) ∷ where_0 5 (update_act 0 6) ∷ under (is 5 0 ∷ []) 1 (move (field 6) 7)
      ∷ under (is 5 1 ∷ []) 1 (move (field 3) 8) ∷ under (is 5 0 ∷ []) 1 (move (field 7) 8) ∷ under [] 1 (add_act 1 (field 8)) ∷ [])
  -- slots go on behind the branch with more outs
  pub slots : Becomes (flat (choose is_small (print one ∷ print one ∷ []) (print one ∷ []) ∷ print (local 0) ∷ [])) (1 ∷ [])
      (plain (compare (field 3) 5) ∷ where_1 5 (print_act 0 (fixed 1)) ∷ where_1 5 (print_act 1 (fixed 1))
      ∷ where_0 5 (print_act 0 (fixed 1)) ∷ plain (print_act 2 (field 3)) ∷ [])
  pub slots_of_second : Becomes (flat (choose is_small [] (print one ∷ []) ∷ print (local 0) ∷ [])) (1 ∷ [])
      (plain (compare (field 3) 5) ∷ where_0 5 (print_act 0 (fixed 1)) ∷ plain (print_act 1 (field 3)) ∷ [])
  -- an if that returns has no joins; one in it that never returns has its own
  pub returns : Becomes (flat (choose is_small (choose (less (local 1) one) (return None ∷ []) [] ∷ []) (assign 0 one ∷ []) ∷ []))
      (1 ∷ 1 ∷ 32 ∷ [])
      (plain (compare (field 3) 5) ∷ where_1 5 (compare (field 4) 6) ∷ where_0 5 (move (fixed 1) 7) ∷ [])
  pub joins_and_returns : Becomes (flat (choose is_small (choose (less (local 1) one) (assign 0 one ∷ []) [] ∷ print (local 0)
      ∷ return None ∷ []) [] ∷ []))
      (1 ∷ 1 ∷ 32 ∷ 32 ∷ [])
      (plain (compare (field 3) 5) ∷ where_1 5 (compare (field 4) 6) ∷ under (is 5 1 ∷ is 6 1 ∷ []) 0 (move (fixed 1) 7)
      ∷ under (is 5 1 ∷ is 6 1 ∷ []) 0 (move (field 7) 8) ∷ under (is 5 1 ∷ is 6 0 ∷ []) 0 (move (field 3) 8)
      ∷ where_1 5 (print_act 0 (field 8)) ∷ [])
  -- a call's parameter is held by its argument, and behind it the caller's locals are as before
  pub call : Becomes (four (assign 2 (put_in (assign 3 (minus (local 3)) ∷ gives (local 3))) ∷ [])) (32 ∷ 32 ∷ 32 ∷ [])
      (plain (negate (field 3) 5) ∷ plain (move (field 5) 6) ∷ plain (move (field 6) 7) ∷ [])
  pub call_without_answer : Becomes (four (drop_value (put_in (print (local 3) ∷ return None ∷ [])) ∷ print (local 0) ∷ [])) []
      (plain (print_act 0 (field 3)) ∷ plain (print_act 1 (field 3)) ∷ [])
  -- answers are joined where both branches return one, also within one another
  pub answers : Becomes (four (print (put_in (choose is_small (gives one) (gives (number 2)) ∷ [])) ∷ [])) (1 ∷ 32 ∷ [])
      (plain (compare (field 3) 5) ∷ where_1 5 (move (fixed 1) 6) ∷ where_0 5 (move (fixed 2) 6) ∷ plain (print_act 0 (field 6))
      ∷ [])
  pub nested_answers : Becomes (four (print (put_in (choose is_small (choose (less (local 1) one) (gives one) (gives one)
      ∷ []) (gives (number 3)) ∷ [])) ∷ []))
      (1 ∷ 1 ∷ 32 ∷ 32 ∷ [])
      (plain (compare (field 3) 5) ∷ where_1 5 (compare (field 4) 6) ∷ under (is 5 1 ∷ is 6 1 ∷ []) 0 (move (fixed 1) 7)
      ∷ under (is 5 1 ∷ is 6 0 ∷ []) 0 (move (fixed 1) 7)
      ∷ where_1 5 (move (field 7) 8) ∷ where_0 5 (move (fixed 3) 8) ∷ plain (print_act 0 (field 8)) ∷ [])
  -- int n = 1; if (i < 1) { n = Array.update(..); } else { n = Array.update(..); } generate note(i, n);
  pub updates_either : Becomes (flat (assign 2 one ∷ choose is_small (assign 2 (updated 0) ∷ []) (assign 2 (updated 0) ∷ [])
      ∷ generate 0 (local 0 ∷ local 2 ∷ []) ∷ []))
      (32 ∷ 1 ∷ 32 ∷ 32 ∷ 32 ∷ 32 ∷ 32 ∷ [])
      (plain (move (fixed 1) 5) ∷ plain (compare (field 3) 6) ∷ where_1 6 (update_act 0 7)
      ∷ under (is 6 1 ∷ []) 1 (move (field 7) 8)
      ∷ where_0 6 (update_act 0 9) ∷ under (is 6 0 ∷ []) 1 (move (field 9) 10)
      ∷ under (is 6 1 ∷ []) 1 (move (field 8) 11) ∷ under (is 6 0 ∷ []) 1 (move (field 10) 11)
      ∷ under [] 1 (send_act 0 (field 3 ∷ field 11 ∷ [])) ∷ [])

-- Three events: note(int, int), one with parameters of 16, 64 and 8 bits, and one without a handler, with a parameter of 40 bits.
abbrev pub three_events : CoreParts
three_events = record (flat []) {
  events = note ∷ record note { params = 16 ∷ 64 ∷ 8 ∷ []; handler = Some 1 } ∷ record note { params = 40 ∷ []; handler = None }
      ∷ [];
  handlers = handler (assign 2 (local 1) ∷ print (local 0) ∷ [])
      ∷ record (handler (assign 0 (local 0) ∷ print (local 2) ∷ [])) { event = 1; locals = 16 ∷ 64 ∷ 8 ∷ [] } ∷ [];
}

-- Arguments have fields for the widest of each place, over all events; fields are counted along the handlers, slots and levels within each.
pub record ProgramExamples : Type 0 where
  pub inputs : (translate three_events).inputs ≡ record { event = 0; now = 1; me = 2; args = 3 }
  pub handlers : all_codes three_events ≡ record {
    ops = plain (move (field 4) 6) ∷ plain (print_act 0 (field 3)) ∷ op (is 0 1 ∷ []) 0 (move (field 3) 7)
        ∷ op (is 0 1 ∷ []) 0 (print_act 0 (field 5)) ∷ [];
    widths = 32 ∷ 32 ∷ 32 ∷ 40 ∷ 64 ∷ 8 ∷ 32 ∷ 16 ∷ [];
    fine = true;
  }
