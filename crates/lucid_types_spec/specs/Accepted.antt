-- The cores of expressions, of sent events, and of names that hide others; and the limit that a program exceeds first.
use Rattle.std.specs.Prelude.{◌≡◌, ℕ, List, [], ◌∷◌, Option, None, Some, true, false, codes, replicate}
use Rattle.lucid_base.specs.Bits.{bits_of}
use Rattle.lucid_base.specs.declared.array.ArrayName.TheVariants.{Global}
use Rattle.lucid_base.specs.declared.memory_alu.MemArg.TheVariants.{Stored, Arg}
use Rattle.lucid_base.specs.declared.ops.BinOp.TheVariants.{Add, And, Or, SatSub}
use Rattle.lucid_base.specs.declared.ops.CmpOp.TheVariants.{Lt}
use Rattle.lucid_base.specs.declared.ops.UnOp.TheVariants.{Flip, Neg, Shl, Shr}
use Rattle.lucid_core.specs.declared.body.Expr.{Expr}
use Rattle.lucid_core.specs.declared.body.Expr.TheVariants as core
use Rattle.lucid_core.specs.declared.body.Expr.TheOpen.{Expr-F}
use Rattle.lucid_core.specs.declared.body.Expr.TheViews.{roll-Expr}
use Rattle.lucid_core.specs.declared.body.Stmt.{Stmt}
use Rattle.lucid_core.specs.declared.body.Stmt.TheVariants as stmt
use Rattle.lucid_core.specs.declared.ending.Ending.{Ending}
use Rattle.lucid_core.specs.declared.ending.Ending.TheVariants.{Never, Sometimes, Always}
use Rattle.lucid_parse_tree.specs.declared.tree.C.{roll-C}
use Rattle.lucid_parse_tree.specs.declared.tree.No.TheVariants as no
use Rattle.lucid_types_spec.specs.Block.{Block, Numbered, if_of}
use Rattle.lucid_core.specs.declared.defs.EventDef.{EventDef}
use Rattle.lucid_core.specs.declared.defs.FunDef.{FunDef}
use Rattle.lucid_core.specs.ExamplePrograms.{array, assign, generate, number, plus, say}
use Rattle.lucid_core.specs.Parts.{CoreParts}
use Rattle.lucid_parse_tree.specs.declared.tree.A.TheVariants as a
use Rattle.lucid_parse_tree.specs.declared.tree.DeclKind.{DeclKind}
use Rattle.lucid_parse_tree.specs.declared.tree.DeclKind.TheVariants as d
use Rattle.lucid_parse_tree.specs.declared.tree.E.{E}
use Rattle.lucid_parse_tree.specs.declared.tree.E.TheVariants as e
use Rattle.lucid_parse_tree.specs.declared.tree.Infix.TheVariants as sign
use Rattle.lucid_parse_tree.specs.declared.tree.P.TheVariants as p
use Rattle.lucid_parse_tree.specs.declared.tree.Pre.TheVariants.{Minus, Tilde, Not}
use Rattle.lucid_parse_tree.specs.declared.tree.S.{S}
use Rattle.lucid_parse_tree.specs.declared.tree.S.TheVariants as s
use Rattle.lucid_parse_tree.specs.declared.tree.Ty.TheVariants as ty
use Rattle.lucid_parse_tree.specs.declared.tree.V.TheVariants as v
use Rattle.lucid_types_spec.specs.declared.body.Destination.TheVariants.{Here, Switch, Group}
use Rattle.lucid_types_spec.specs.declared.body.Sending.{Sending}
use Rattle.lucid_types_spec.specs.declared.limit.What.TheVariants as what
use Rattle.lucid_types_spec.specs.declared.scope.Entry.TheVariants as entry
use Rattle.lucid_types_spec.specs.declared.scope.ValueType.{ValueType}
use Rattle.lucid_types_spec.specs.declared.scope.ValueType.TheVariants.{Int}
use Rattle.lucid_types_spec.specs.declared.scope.ValueType.TheVariants as vt
use Rattle.lucid_types_spec.specs.Declaration.{parts_of, start}
use Rattle.lucid_types_spec.specs.Limits.{passed}
use Rattle.lucid_types_spec.specs.Memop.{MemopBody, memop_names}
use Rattle.lucid_types_spec.specs.Names.{called}
use Rattle.lucid_types_spec.specs.Refused.{done, i, n, sight, yes}
use Rattle.lucid_types_spec.specs.Sends.{Sends}
use Rattle.lucid_types_spec.specs.Typed.{Touched, Typed, returning, touching, zero_of}
use Rattle.lucid_types_spec.specs.Types.{Parameters, ints}

-- ---- expressions; local 0 is `i`, of 32 bits, local 1 `n`, of 8

abbrev pub Has : ValueType → E → Expr → Type 0
Has t x c = Typed sight t x c

abbrev pub eight : ℕ → Expr
eight k = core.Fixed (bits_of 8 k)

pub record TypedExpressions : Type 0 where
  -- a number has the width of the leaf behind it
  pub number_first : Has vt.Bool (e.Infix sign.Less (e.Number 255) n) (core.Cmp Lt (eight 255) (core.Local 1))
  -- leaves are found through parentheses, `-`, `~`, arithmetic and shifts
  pub leaf_inside :
      Has (Int 32) (e.Cast None (e.Infix sign.SatSub (e.Number 1) (e.Prefix Minus (e.Paren (e.Shift (e.Prefix Tilde n) true 2)))))
      (core.Cast 32 (core.Bin SatSub (eight 1) (core.Un Neg (core.Un (Shl 2) (core.Un Flip (core.Local 1))))))
  -- and not in a cast, which has its own width
  pub cast_is_a_leaf :
      Has vt.Bool (e.Infix sign.Less (e.Number 256) (e.Cast (Some 16) n))
      (core.Cmp Lt (core.Fixed (bits_of 16 256)) (core.Cast 16 (core.Local 1)))
  -- numbers alone have 32 bits, with any signs round them
  pub numbers_alone :
      Has (Int 8) (e.Cast (Some 8) (e.Infix sign.Plus (e.Prefix Minus (e.Number 1)) (e.Prefix Tilde (e.Paren (e.Shift (e.Number 2) true 3)))))
      (core.Cast 8 (core.Bin Add (core.Un Neg (core.Fixed (bits_of 32 1))) (core.Un Flip (core.Un (Shl 3) (core.Fixed (bits_of 32 2))))))
  pub both_hold : Has vt.Bool (e.Infix sign.AndAnd yes (e.Truth true)) (core.Bin And (core.Local 2) (core.Fixed (bits_of 1 1)))
  pub one_holds : Has vt.Bool (e.Infix sign.OrOr (e.Truth false) yes) (core.Bin Or (core.Fixed (bits_of 1 0)) (core.Local 2))
  pub shift_right : Has (Int 8) (e.Shift n false 100) (core.Un (Shr 100) (core.Local 1))
  pub not_of_a_bool : Has vt.Bool (e.Prefix Not yes) (core.Un Flip (core.Local 2))
  pub seed_is_free : Has (Int 16) (e.Hash 16 (e.Number 4294967295 ∷ n ∷ []))
      (core.Hash 16 (core.Fixed (bits_of 32 4294967295) ∷ core.Local 1 ∷ []))
  pub get : Has (Int 8) (e.Array (a.Get (codes "b") i))
      (core.Array (touching (Global 1) (core.Local 0) (returning 8 Stored) (zero_of 8) (returning 8 Stored) (zero_of 8) true))
  pub update : Has (Int 32) (e.Array (a.Update (codes "a") n (codes "plus") (e.Number 1) (codes "last") (e.Number 2)))
      (core.Array (touching (Global 0) (core.Local 1) plus (core.Fixed (bits_of 32 1)) (returning 32 Arg) (core.Fixed (bits_of 32 2)) true))
  pub set : Touched sight (a.Set (codes "a") n i) None
      (touching (Global 0) (core.Local 1) (returning 32 Stored) (zero_of 32) (returning 32 Arg) (core.Local 0) false)
  pub setm : Touched sight (a.Setm (codes "a") n (codes "plus") i) None
      (touching (Global 0) (core.Local 1) (returning 32 Stored) (zero_of 32) plus (core.Local 0) false)

-- ---- statements, as the only ones of a block; the body has 3 locals so far

abbrev pub three : Numbered
three = record { locals = 32 ∷ 8 ∷ 1 ∷ []; forms = codes "x" ∷ [] }

-- It has this core, returns on these paths, and numbers nothing.
abbrev pub Becomes : Option ValueType → S → List Stmt → Ending → Type 0
Becomes answer x steps ending = Block answer sight three (x ∷ []) (record { steps = steps; ending = ending }) three

abbrev pub to_n : ℕ → List S
to_n k = s.Assign (codes "n") (e.Number k) ∷ []

abbrev pub sets_n : ℕ → List Stmt
sets_n k = stmt.Assign 1 (eight k) ∷ []

abbrev pub returns : ℕ → List S
returns k = s.Return (Some (e.Number k)) ∷ []

abbrev pub gives : ℕ → List Stmt
gives k = stmt.Return (Some (eight k)) ∷ []

pub record TypedStatements : Type 0 where
  pub if_else : Becomes None (if_of yes (to_n 1) (no.Block (to_n 2))) (stmt.If (core.Local 2) (sets_n 1) (sets_n 2) ∷ []) Never
  pub else_if : Becomes None (if_of yes (to_n 1) (no.Cond (roll-C (record { test = yes; yes = to_n 2; no = no.Absent }))))
      (stmt.If (core.Local 2) (sets_n 1) (stmt.If (core.Local 2) (sets_n 2) [] ∷ []) ∷ []) Never
  pub both_return : Becomes (Some (Int 8)) (if_of yes (returns 1) (no.Block (returns 2))) (stmt.If (core.Local 2) (gives 1) (gives 2) ∷ []) Always
  -- a return on some path is last
  pub one_returns : Becomes (Some (Int 8)) (if_of yes (returns 1) (no.Block (to_n 2))) (stmt.If (core.Local 2) (gives 1) (sets_n 2) ∷ []) Sometimes
  -- also one inside an if without a second branch, which is no guard
  pub some_path_returns : Becomes (Some (Int 8)) (if_of yes (if_of yes (returns 1) (no.Block (to_n 2)) ∷ []) no.Absent)
      (stmt.If (core.Local 2) (stmt.If (core.Local 2) (gives 1) (sets_n 2) ∷ []) [] ∷ []) Sometimes
  pub text_again : Becomes None (s.Printf (codes "x") []) (stmt.Say 0 [] ∷ []) Never
  pub value_is_dropped : Becomes None (s.Array (a.Get (codes "b") i))
      (stmt.Drop (core.Array (touching (Global 1) (core.Local 0) (returning 8 Stored) (zero_of 8) (returning 8 Stored) (zero_of 8) true)) ∷ []) Never

-- ---- names that hide others

pub record HidingNames : Type 0 where
  pub newest : Typed (called (codes "n") (entry.Local 9 vt.Bool) ∷ sight) vt.Bool n (core.Local 9)
  pub older_ones_stay : Typed (called (codes "m") (entry.Local 9 vt.Bool) ∷ sight) (Int 8) n (core.Local 1)
  -- int p, int<<8>> p: both are parameters, and the body sees the second
  pub parameters : Parameters 0 0 [] (p.Value (ty.Int None) (codes "p") ∷ p.Value (ty.Int (Some 8)) (codes "p") ∷ []) (ints (32 ∷ 8 ∷ []))
      (called (codes "p") (entry.Local 1 (Int 8)) ∷ called (codes "p") (entry.Local 0 (Int 32)) ∷ [])

-- ---- memops with a condition; the stored value is local 0, `p`, the other local 1, `q`

abbrev pub operand : List ℕ → List S
operand n = s.Return (Some (e.Name n)) ∷ []

abbrev pub lesser : E
lesser = e.Infix sign.Less (e.Name (codes "p")) (e.Name (codes "q"))

abbrev pub chosen : List Stmt
chosen = stmt.If (core.Cmp Lt (core.Local 0) (core.Local 1)) (stmt.Return (Some (core.Local 1)) ∷ []) (stmt.Return (Some (core.Local 0)) ∷ []) ∷ []

abbrev pub IsMemop : List S → List Stmt → Type 0
IsMemop = MemopBody (memop_names 32 (codes "p") (codes "q") []) 32

pub record TypedMemops : Type 0 where
  pub choice : IsMemop (if_of lesser (operand (codes "q")) (no.Block (operand (codes "p"))) ∷ []) chosen
  -- the second return may follow the if
  pub guard : IsMemop (if_of (e.Paren lesser) (operand (codes "q")) no.Absent ∷ operand (codes "p")) chosen

-- ---- sent events

abbrev pub sending : Sending
sending = record { event = 1; args = []; delay = None; to = Here; delay_first = false }

abbrev pub five : Expr
five = core.Fixed (bits_of 32 5)

pub record SentEvents : Type 0 where
  pub to_itself : Sends sight (v.Paren done) sending
  pub delay_inside : Sends sight (v.Locate (v.Delay done (e.Number 5)) i)
      (record sending { delay = Some five; to = Switch (core.Local 0); delay_first = true })
  pub locate_inside : Sends sight (v.Delay (v.Locate done i) (e.Number 5))
      (record sending { delay = Some five; to = Switch (core.Local 0) })
  pub to_a_group : Sends sight (v.Locate (v.Delay done (e.Number 5)) (e.Name (codes "both")))
      (record sending { delay = Some five; to = Group (1 ∷ 2 ∷ []) })

-- ---- limits

abbrev pub nothing : CoreParts
nothing = parts_of start

abbrev pub event_of : ℕ → EventDef
event_of k = record { name = []; params = replicate k 32; handler = None }

abbrev pub fun_of : ℕ → ℕ → List Stmt → FunDef
fun_of arrays params body = record {
  name = [];
  arrays = replicate arrays 32;
  params = params;
  locals = replicate params 32;
  answer = None;
  body = body;
  decl = 1;
  line = 1;
}

-- any declaration without a body
abbrev pub other : DeclKind
other = d.Group [] []

-- A hash of a seed and this many values, and a print of this many.
abbrev pub hash_of : ℕ → Stmt
hash_of k = assign 0 (roll-Expr (Expr-F.Hash 32 (number 0 ∷ replicate k (number 0))))

abbrev pub print_of : ℕ → Stmt
print_of k = say 0 (replicate k (number 0))

abbrev pub match_of : ℕ → DeclKind
match_of k = d.Handle [] [] (s.Match i (replicate k (0, [])) None ∷ [])

abbrev pub behind_else : ℕ → DeclKind
behind_else k = d.Handle [] [] (if_of yes [] (no.Block (s.Match i (replicate k (0, [])) None ∷ [])) ∷ [])

pub record PassedLimits : Type 0 where
  pub arrays_64 : passed other (record nothing { arrays = replicate 64 (array 1) }) ≡ None
  pub arrays_65 : passed other (record nothing { arrays = replicate 65 (array 1) }) ≡ Some what.Arrays
  pub array_parameters_8 : passed other (record nothing { funs = fun_of 8 0 [] ∷ [] }) ≡ None
  pub array_parameters_9 : passed other (record nothing { funs = fun_of 9 0 [] ∷ [] }) ≡ Some what.ArrayParameters
  pub values_8 : passed other (record nothing { events = event_of 8 ∷ []; funs = fun_of 0 8 [] ∷ [] }) ≡ None
  pub values_9 : passed other (record nothing { funs = fun_of 0 9 [] ∷ [] }) ≡ Some what.ValueParameters
  pub event_values_9 : passed other (record nothing { events = event_of 9 ∷ [] }) ≡ Some what.ValueParameters
  pub arguments_8 : passed other (record nothing { funs = fun_of 0 0 (hash_of 8 ∷ print_of 8 ∷ []) ∷ [] }) ≡ None
  pub hashed_9 : passed other (record nothing { funs = fun_of 0 0 (hash_of 9 ∷ []) ∷ [] }) ≡ Some what.Arguments
  pub printed_9 : passed other (record nothing { funs = fun_of 0 0 (print_of 9 ∷ []) ∷ [] }) ≡ Some what.Arguments
  pub outs_8 : passed other (record nothing { funs = fun_of 0 0 (replicate 8 (generate 0 [])) ∷ [] }) ≡ None
  pub outs_9 : passed other (record nothing { funs = fun_of 0 0 (replicate 9 (generate 0 [])) ∷ [] }) ≡ Some what.Outs
  pub cases_32 : passed (match_of 32) nothing ≡ None
  pub cases_33 : passed (match_of 33) nothing ≡ Some what.Cases
  -- also behind an else
  pub cases_33_behind : passed (behind_else 33) nothing ≡ Some what.Cases
  -- the first of several
  pub arrays_first : passed (match_of 33) (record nothing { arrays = replicate 65 (array 1); funs = fun_of 9 9 [] ∷ [] }) ≡ Some what.Arrays
  pub array_parameters_before_values : passed other (record nothing { funs = fun_of 9 9 [] ∷ [] }) ≡ Some what.ArrayParameters
  pub cases_last : passed (match_of 33) (record nothing { funs = fun_of 0 0 (replicate 9 (generate 0 [])) ∷ [] }) ≡ Some what.Outs
