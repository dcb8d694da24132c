-- Expressions, statements and declarations that break one rule each, and so have no core.
use Rattle.std.specs.Prelude.{List, [], ◌∷◌, Option, None, Some, true, false, codes}
use Rattle.lucid_base.specs.Bits.{bits_of}
use Rattle.lucid_base.specs.declared.array.ArrayName.TheVariants.{Global}
use Rattle.lucid_base.specs.declared.memory_alu.MemArg.TheVariants.{Arg}
use Rattle.lucid_core.specs.declared.body.Expr.{Expr}
use Rattle.lucid_core.specs.ExamplePrograms.{plus}
use Rattle.lucid_parse_tree.specs.declared.tree.A.TheVariants as a
use Rattle.lucid_parse_tree.specs.declared.tree.DeclKind.{DeclKind}
use Rattle.lucid_parse_tree.specs.declared.tree.DeclKind.TheVariants as d
use Rattle.lucid_parse_tree.specs.declared.tree.E.{E}
use Rattle.lucid_parse_tree.specs.declared.tree.E.TheVariants as e
use Rattle.lucid_parse_tree.specs.declared.tree.Infix.TheVariants as sign
use Rattle.lucid_parse_tree.specs.declared.tree.No.TheVariants as no
use Rattle.lucid_parse_tree.specs.declared.tree.P.TheVariants as p
use Rattle.lucid_parse_tree.specs.declared.tree.Pre.TheVariants.{Not}
use Rattle.lucid_parse_tree.specs.declared.tree.S.{S}
use Rattle.lucid_parse_tree.specs.declared.tree.S.TheVariants as s
use Rattle.lucid_parse_tree.specs.declared.tree.Size.TheVariants as size
use Rattle.lucid_parse_tree.specs.declared.tree.Ty.TheVariants as ty
use Rattle.lucid_parse_tree.specs.declared.tree.V.{V}
use Rattle.lucid_parse_tree.specs.declared.tree.V.TheVariants as v
use Rattle.lucid_types_spec.specs.declared.body.Body.{Body}
use Rattle.lucid_types_spec.specs.declared.scope.Entry.TheVariants as entry
use Rattle.lucid_types_spec.specs.declared.scope.Param.TheVariants as param
use Rattle.lucid_types_spec.specs.declared.scope.ValueType.{ValueType}
use Rattle.lucid_types_spec.specs.declared.scope.ValueType.TheVariants.{Int}
use Rattle.lucid_types_spec.specs.declared.scope.ValueType.TheVariants as vt
use Rattle.lucid_types_spec.specs.Block.{Block, Numbered, if_of}
use Rattle.lucid_types_spec.specs.Declaration.{Declared, Definitions, start}
use Rattle.lucid_types_spec.specs.Examples.{int, int_of, name}
use Rattle.lucid_types_spec.specs.Names.{Names, called}
use Rattle.lucid_types_spec.specs.Typed.{Typed, returning}

-- ---- the scope: constants, arrays, memops, events, functions, groups and locals

abbrev pub top : Names
top =
    called (codes "limit") (entry.Constant (bits_of 8 10))
    ∷ called (codes "a") (entry.Array (Global 0) 32)
    ∷ called (codes "b") (entry.Array (Global 1) 8)
    ∷ called (codes "plus") (entry.Memop plus)
    ∷ called (codes "last") (entry.Memop (returning 32 Arg))
    ∷ called (codes "out") (entry.Event 0 (32 ∷ []))
    ∷ called (codes "done") (entry.Event 1 [])
    ∷ called (codes "count") (entry.Fun 0 (param.Array 32 ∷ param.Value (Int 32) ∷ []) (Some (Int 32)))
    ∷ called (codes "stop") (entry.Fun 1 [] None)
    ∷ called (codes "both") (entry.Group (1 ∷ 2 ∷ []))
    ∷ []

abbrev pub sight : Names
sight =
    called (codes "i") (entry.Local 0 (Int 32))
    ∷ called (codes "n") (entry.Local 1 (Int 8))
    ∷ called (codes "yes") (entry.Local 2 vt.Bool)
    ∷ top

abbrev pub i : E
i = name (codes "i")

abbrev pub n : E
n = name (codes "n")

abbrev pub yes : E
yes = name (codes "yes")

-- ---- expressions

abbrev pub NoCore : ValueType → E → Type 0
NoCore t x = (c : Expr) → Typed sight t x c → ⊥

pub record RefusedExpressions : Type 0 where
  pub number_fits : NoCore (Int 8) (e.Number 256)
  pub number_is_no_bool : NoCore vt.Bool (e.Number 1)
  pub truth_is_no_int : NoCore (Int 1) (e.Truth true)
  pub bool_is_no_int : NoCore (Int 1) yes
  pub name_is_visible : (t : ValueType) → NoCore t (name (codes "x"))
  pub array_is_no_value : (t : ValueType) → NoCore t (name (codes "a"))
  pub group_is_no_value : (t : ValueType) → NoCore t (name (codes "both"))
  pub local_has_its_width : NoCore (Int 32) n
  pub constant_has_its_width : NoCore (Int 32) (name (codes "limit"))
  pub switch_has_32_bits : NoCore (Int 8) e.Me
  pub time_has_32_bits : NoCore (Int 8) e.Time
  pub sum_has_one_width : NoCore (Int 32) (e.Infix sign.Plus i n)
  pub sum_is_no_bool : NoCore vt.Bool (e.Infix sign.Plus i i)
  pub not_takes_a_bool : NoCore vt.Bool (e.Prefix Not i)
  pub and_takes_bools : NoCore vt.Bool (e.Infix sign.AndAnd yes i)
  pub sides_have_one_width : NoCore vt.Bool (e.Infix sign.Less i n)
  pub sides_are_no_bools : NoCore vt.Bool (e.Infix sign.EqualEqual yes yes)
  -- two numbers in a free place have 32 bits
  pub numbers_have_32_bits : NoCore vt.Bool (e.Infix sign.EqualEqual (e.Number 4294967296) (e.Number 0))
  pub cast_of_an_int : NoCore (Int 8) (e.Cast (Some 8) yes)
  pub cast_to_a_width : NoCore (Int 65) (e.Cast (Some 65) i)
  -- also under a wide cast
  pub cast_of_32_bits : NoCore (Int 64) (e.Cast (Some 64) (e.Number 4294967296))
  pub hash_of_a_width : NoCore (Int 0) (e.Hash 0 (i ∷ []))
  pub hash_of_ints : NoCore (Int 8) (e.Hash 8 (e.Number 1 ∷ yes ∷ []))
  pub void_gives_no_value : (t : ValueType) → NoCore t (e.Call (codes "stop") [])
  pub event_is_not_called : (t : ValueType) → NoCore t (e.Call (codes "done") [])
  pub too_few_are_given : NoCore (Int 32) (e.Call (codes "count") (name (codes "a") ∷ []))
  pub too_many_are_given : NoCore (Int 32) (e.Call (codes "count") (name (codes "a") ∷ i ∷ i ∷ []))
  pub array_has_its_width : NoCore (Int 32) (e.Call (codes "count") (name (codes "b") ∷ i ∷ []))
  pub array_is_a_bare_name : NoCore (Int 32) (e.Call (codes "count") (e.Paren (name (codes "a")) ∷ i ∷ []))
  pub set_gives_no_value : (t : ValueType) → NoCore t (e.Array (a.Set (codes "a") i i))
  pub get_of_an_array : (t : ValueType) → NoCore t (e.Array (a.Get (codes "limit") i))
  pub index_is_an_int : NoCore (Int 32) (e.Array (a.Get (codes "a") yes))
  pub memop_has_the_cells_width : NoCore (Int 8) (e.Array (a.Getm (codes "b") i (codes "plus") n))

-- ---- statements, the first of a block

abbrev pub NoBlock : Option ValueType → List S → Type 0
NoBlock answer xs = (m : Numbered) (b : Body) (k : Numbered) → Block answer sight m xs b k → ⊥

-- generate V;
abbrev pub generates : V → List S
generates x = s.Generate x ∷ []

abbrev pub done : V
done = v.Call (codes "done") []

pub record RefusedStatements : Type 0 where
  pub local_has_a_width : NoBlock None (s.Declare (int_of 0) (codes "x") (e.Number 0) ∷ [])
  pub local_is_of_its_type : NoBlock None (s.Declare int (codes "x") yes ∷ [])
  -- int x = x;
  pub name_is_visible_after_it : NoBlock None (s.Declare int (codes "x") (name (codes "x")) ∷ [])
  pub constant_is_not_assigned : NoBlock None (s.Assign (codes "limit") (e.Number 1) ∷ [])
  pub assigned_is_of_its_type : NoBlock None (s.Assign (codes "n") i ∷ [])
  pub handler_returns_no_value : NoBlock None (s.Return (Some i) ∷ [])
  pub function_returns_a_value : NoBlock (Some (Int 32)) (s.Return None ∷ [])
  pub value_is_of_the_answers_type : NoBlock (Some (Int 32)) (s.Return (Some n) ∷ [])
  pub return_is_the_last : NoBlock None (s.Return None ∷ s.Return None ∷ [])
  pub condition_is_a_bool : NoBlock None (if_of i [] no.Absent ∷ [])
  pub as_many_as_holes : NoBlock None (s.Printf (codes "%d %d") (i ∷ []) ∷ [])
  pub event_is_visible : NoBlock None (generates (v.Call (codes "a") []))
  pub event_is_given_its_params : NoBlock None (generates (v.Call (codes "out") []))
  pub one_delay : NoBlock None (generates (v.Delay (v.Delay done (e.Number 1)) (e.Number 1)))
  pub one_locate : NoBlock None (generates (v.Locate (v.Locate done (e.Number 1)) (e.Number 1)))
  pub group_is_the_one_locate : NoBlock None (generates (v.Locate (v.Locate done (e.Number 1)) (name (codes "both"))))
  pub test_is_an_int : NoBlock None (s.Match yes ((1, []) ∷ []) None ∷ [])
  pub case_fits : NoBlock None (s.Match n ((256, []) ∷ []) None ∷ [])
  pub cases_differ : NoBlock None (s.Match n ((1, []) ∷ (1, []) ∷ []) None ∷ [])
  pub match_has_a_case : NoBlock None (s.Match n [] None ∷ [])

-- ---- declarations

-- Event `out` has no handler yet, `done` has one.
abbrev pub before : Definitions
before = record start {
  names = top;
  events = record { name = codes "out"; params = 32 ∷ []; handler = None }
      ∷ record { name = codes "done"; params = []; handler = Some 0 }
      ∷ [];
}

abbrev pub NoRule : DeclKind → Type 0
NoRule x = (l : Definitions) → Declared 1 1 before x l → ⊥

pub record RefusedDeclarations : Type 0 where
  pub constant_fits : NoRule (d.Const (int_of 8) (codes "x") 256)
  pub constant_is_an_int : NoRule (d.Const ty.Bool (codes "x") 1)
  pub width_is_at_least_1 : NoRule (d.Const (int_of 0) (codes "x") 0)
  pub width_is_at_most_64 : NoRule (d.Const (int_of 65) (codes "x") 0)
  pub cells_have_a_width : NoRule (d.Global false 65 (codes "x") (size.Number 1))
  pub array_has_a_cell : NoRule (d.Global false 32 (codes "x") (size.Number 0))
  pub array_is_not_too_large : NoRule (d.Global false 32 (codes "x") (size.Number 65537))
  pub size_is_a_constant : NoRule (d.Global false 32 (codes "x") (size.Named (codes "out")))
  pub memop_has_one_width : (body : List S) → NoRule (d.Memop (codes "x") (int, codes "p") (int_of 8, codes "q") body)
  pub memop_is_of_ints : (body : List S) → NoRule (d.Memop (codes "x") (ty.Bool, codes "p") (ty.Bool, codes "q") body)
  pub memop_returns : NoRule (d.Memop (codes "x") (int, codes "p") (int, codes "q") [])
  pub event_is_of_ints : NoRule (d.Event (codes "x") (p.Value ty.Bool (codes "p") ∷ []))
  pub event_takes_no_arrays : NoRule (d.Event (codes "x") (p.Array false 32 (codes "p") ∷ []))
  pub handler_is_of_an_event : (body : List S) → NoRule (d.Handle (codes "a") [] body)
  pub event_has_one_handler : (body : List S) → NoRule (d.Handle (codes "done") [] body)
  pub handler_repeats_widths : (body : List S) → NoRule (d.Handle (codes "out") (p.Value (int_of 8) (codes "p") ∷ []) body)
  pub function_always_returns : NoRule (d.Fun (Some int) (codes "x") [] [])
  pub answer_is_a_type : (body : List S) → NoRule (d.Fun (Some (int_of 0)) (codes "x") [] body)
  pub function_is_not_visible_in_itself : NoRule (d.Fun (Some int) (codes "x") [] (s.Return (Some (e.Call (codes "x") [])) ∷ []))
  pub group_has_a_member : NoRule (d.Group (codes "x") [])
  pub group_has_at_most_8 : NoRule (d.Group (codes "x") (1 ∷ 2 ∷ 3 ∷ 4 ∷ 5 ∷ 6 ∷ 7 ∷ 8 ∷ 9 ∷ []))
  pub member_is_a_switch : NoRule (d.Group (codes "x") (64 ∷ []))
  pub members_differ : NoRule (d.Group (codes "x") (1 ∷ 1 ∷ []))
