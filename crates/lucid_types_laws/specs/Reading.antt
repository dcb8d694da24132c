-- The rules of expressions as a function: the core of an expression. It goes once over the tree, from the left.
use Rattle.std.specs.Prelude.{ℕ, ◌^◌, List, [], ◌∷◌, Option, None, Some, Bool, true, false, ◌&&◌, if◌then◌else◌, nat_eq, nat_lt, nat_le}
use Rattle.lucid_base.specs.Bits.{bits_of}
use Rattle.lucid_base.specs.Bool.{bit_of}
use Rattle.lucid_base.specs.declared.array.ArrayName.{ArrayName}
use Rattle.lucid_base.specs.declared.memory_alu.MemAlu.{MemAlu}
use Rattle.lucid_base.specs.declared.memory_alu.MemArg.TheVariants.{Stored, Arg}
use Rattle.lucid_base.specs.declared.ops.BinOp.{BinOp}
use Rattle.lucid_base.specs.declared.ops.CmpOp.{CmpOp}
use Rattle.lucid_base.specs.declared.ops.UnOp.{UnOp}
use Rattle.lucid_base.specs.declared.ops.UnOp.TheVariants.{Neg, Flip, Shl, Shr}
use Rattle.lucid_core.specs.declared.body.Expr.{Expr}
use Rattle.lucid_core.specs.declared.body.Expr.TheVariants as core
use Rattle.lucid_core.specs.declared.body.Touch.{Touch}
use Rattle.lucid_core.specs.Typing.{◌>>=◌}
use Rattle.lucid_parse_tree.specs.declared.tree.A.{A, fold-A}
use Rattle.lucid_parse_tree.specs.declared.tree.A.TheOpen.{A-F, E-F}
use Rattle.lucid_parse_tree.specs.declared.tree.E.{E, fold-E}
use Rattle.lucid_parse_tree.specs.declared.tree.Pre.{Pre}
use Rattle.lucid_parse_tree.specs.declared.tree.Pre.TheVariants.{Minus, Tilde, Not}
use Rattle.lucid_types_spec.specs.declared.scope.Entry.{Entry}
use Rattle.lucid_types_spec.specs.declared.scope.Entry.TheVariants as entry
use Rattle.lucid_types_spec.specs.declared.scope.Param.{Param}
use Rattle.lucid_types_spec.specs.declared.scope.Param.TheVariants as param
use Rattle.lucid_types_spec.specs.declared.scope.ValueType.{ValueType}
use Rattle.lucid_types_spec.specs.declared.scope.ValueType.TheVariants.{Int}
use Rattle.lucid_types_spec.specs.declared.scope.ValueType.TheVariants as vt
use Rattle.lucid_types_spec.specs.Names.{Names, seen}
use Rattle.lucid_types_spec.specs.Operators.{arithmetic, comparison, logic}
use Rattle.lucid_types_spec.specs.Typed.{returning, touching, zero_of}
use Rattle.lucid_types_spec.specs.Types.{stated}
use Rattle.lucid_types_laws.specs.declared.arguments.Arguments.{Arguments}
use Rattle.lucid_types_laws.specs.Lead.{Lead, array_lead, either_lead, infix_lead, named_lead, or_32, prefix_lead}
use Rattle.lucid_types_laws.specs.Partial.{given, when}

-- The width of its first leaf that is no number, its name where it is a bare one, its core at a place that asks for a type, and as the
-- condition of a memop of a width.
pub record Elaboration : Type 0 where
  pub lead : Lead
  pub bare : Option (List ℕ)
  pub core : Names → ValueType → Option Expr
  pub condition : Names → ℕ → Option Expr

-- A call of an array: the width of its value, where it gives one, and its core.
abbrev pub Touching : Type 0
Touching = Option ℕ × Touch

pub record CallElaboration : Type 0 where
  pub lead : Lead
  pub touch : Names → Option Touching

-- A call of a function: the type of its value, where it gives one, and its core.
abbrev pub Calling : Type 0
Calling = Option ValueType × Expr

-- ---- types and widths

abbrev pub same_type : ValueType → ValueType → Bool
same_type (Int w) (Int v) = nat_eq w v
same_type vt.Bool vt.Bool = true
same_type _ _ = false

abbrev pub is_width : ℕ → Bool
is_width w = nat_le 1 w && nat_le w 64

abbrev pub at_int : (ℕ → Option Expr) → ValueType → Option Expr
at_int f (Int w) = f w
at_int f vt.Bool = None

abbrev pub at_bool : Option Expr → ValueType → Option Expr
at_bool o (Int w) = None
at_bool o vt.Bool = o

-- At a free place of this width.
abbrev pub free_at : ℕ → Elaboration → Names → Option Expr
free_at w f s = when (is_width w) (f.core s (Int w))

abbrev pub free : Elaboration → Names → Option Expr
free f s = free_at (or_32 (f.lead s)) f s

abbrev pub all_free : List Elaboration → Names → Option (List Expr)
all_free [] s = Some []
all_free (f ∷ fs) s = do
  c ← free f s
  cs ← all_free fs s
  Some (c ∷ cs)

-- ---- leaves and operators

abbrev pub number_core : ℕ → ValueType → Option Expr
number_core n t = at_int (λ w. given (nat_lt n (2 ^ w)) (core.Fixed (bits_of w n))) t

abbrev pub name_core : ValueType → Option Entry → Option Expr
name_core t (Some (entry.Constant b)) = given (same_type (Int b.width) t) (core.Fixed b)
name_core t (Some (entry.Local i u)) = given (same_type u t) (core.Local i)
name_core t _ = None

abbrev pub unary : UnOp → Option Expr → Option Expr
unary op o = do
  c ← o
  Some (core.Un op c)

abbrev pub binary : BinOp → Option Expr → Option Expr → Option Expr
binary op o p = do
  c ← o
  d ← p
  Some (core.Bin op c d)

abbrev pub compared : CmpOp → Option Expr → Option Expr → Option Expr
compared op o p = do
  c ← o
  d ← p
  Some (core.Cmp op c d)

abbrev pub prefix_core : Pre → Elaboration → Names → ValueType → Option Expr
prefix_core Minus f s t = at_int (λ w. unary Neg (f.core s (Int w))) t
prefix_core Tilde f s t = at_int (λ w. unary Flip (f.core s (Int w))) t
prefix_core Not f s t = at_bool (unary Flip (f.core s vt.Bool)) t

-- Two sides that are one free place of this width.
abbrev pub compared_at : ℕ → CmpOp → Elaboration → Elaboration → Names → Option Expr
compared_at w op f g s = when (is_width w) (compared op (f.core s (Int w)) (g.core s (Int w)))

abbrev pub shared_width : Elaboration → Elaboration → Names → ℕ
shared_width f g s = or_32 (either_lead f.lead g.lead s)

-- By the kind of the sign: of arithmetic, a comparison, or of logic.
abbrev pub infix_core : Option BinOp → Option CmpOp → Option BinOp → Elaboration → Elaboration → Names → ValueType → Option Expr
infix_core (Some op) c l f g s t = at_int (λ w. binary op (f.core s (Int w)) (g.core s (Int w))) t
infix_core None (Some op) l f g s t = at_bool (compared_at (shared_width f g s) op f g s) t
infix_core None None (Some op) f g s t = at_bool (binary op (f.core s vt.Bool) (g.core s vt.Bool)) t
infix_core None None None f g s t = None

abbrev pub condition_core : Option CmpOp → Elaboration → Elaboration → Names → ℕ → Option Expr
condition_core None f g s w = None
condition_core (Some op) f g s w = compared op (f.core s (Int w)) (g.core s (Int w))

abbrev pub cast_core : ℕ → Option Expr → ValueType → Option Expr
cast_core w o t = do
  c ← o
  given (same_type (Int w) t && is_width w) (core.Cast w c)

abbrev pub hash_of : ℕ → ValueType → List Expr → Option Expr
hash_of w t [] = None
hash_of w t (c ∷ cs) = given (same_type (Int w) t && is_width w) (core.Hash w (c ∷ cs))

abbrev pub hash_core : ℕ → List Elaboration → Names → ValueType → Option Expr
hash_core w fs s t = all_free fs s >>= hash_of w t

-- ---- calls

abbrev pub array_at : Option Entry → Option (ArrayName × ℕ)
array_at (Some (entry.Array name w)) = Some (name, w)
array_at _ = None

abbrev pub memop_at : ℕ → Option Entry → Option MemAlu
memop_at w (Some (entry.Memop m)) = given (nat_eq m.width w) m
memop_at w _ = None

-- The array of this cell width that a bare name denotes.
abbrev pub named_array : ℕ → Option (List ℕ) → Names → Option ArrayName
named_array w None s = None
named_array w (Some n) s = do
  x ← array_at (seen n s)
  given (nat_eq x.1 w) x.0

abbrev pub given_all : List Param → List Elaboration → Names → Option Arguments
given_all [] [] s = Some (record { names = []; values = [] })
given_all [] (f ∷ fs) s = None
given_all (x ∷ ps) [] s = None
given_all (param.Value t ∷ ps) (f ∷ fs) s = do
  c ← f.core s t
  rest ← given_all ps fs s
  Some (record rest { values = c ∷ rest.values })
given_all (param.Array w ∷ ps) (f ∷ fs) s = do
  name ← named_array w f.bare s
  rest ← given_all ps fs s
  Some (record rest { names = name ∷ rest.names })

abbrev pub called_at : Option Entry → List Elaboration → Names → Option Calling
called_at (Some (entry.Fun k ps t)) fs s = do
  all ← given_all ps fs s
  Some (t, core.Fun k all.names all.values)
called_at _ fs s = None

abbrev pub called : List ℕ → List Elaboration → Names → Option Calling
called n fs s = called_at (seen n s) fs s

-- The value of a call at a place that asks for this type.
abbrev pub value_of : ValueType → Calling → Option Expr
value_of t (None, c) = None
value_of t (Some u, c) = given (same_type u t) c

abbrev pub touch_value : ValueType → Touching → Option Expr
touch_value t (None, c) = None
touch_value t (Some w, c) = given (same_type (Int w) t) (core.Array c)

abbrev pub get_at : ArrayName × ℕ → Elaboration → Names → Option Touching
get_at a i s = do
  j ← free i s
  Some (Some a.1, touching a.0 j (returning a.1 Stored) (zero_of a.1) (returning a.1 Stored) (zero_of a.1) true)

abbrev pub set_at : ArrayName × ℕ → Elaboration → Elaboration → Names → Option Touching
set_at a i x s = do
  j ← free i s
  c ← x.core s (Int a.1)
  Some (None, touching a.0 j (returning a.1 Stored) (zero_of a.1) (returning a.1 Arg) c false)

abbrev pub getm_at : ArrayName × ℕ → Elaboration → List ℕ → Elaboration → Names → Option Touching
getm_at a i m x s = do
  j ← free i s
  memop ← memop_at a.1 (seen m s)
  c ← x.core s (Int a.1)
  Some (Some a.1, touching a.0 j memop c (returning a.1 Stored) (zero_of a.1) true)

abbrev pub setm_at : ArrayName × ℕ → Elaboration → List ℕ → Elaboration → Names → Option Touching
setm_at a i m x s = do
  j ← free i s
  memop ← memop_at a.1 (seen m s)
  c ← x.core s (Int a.1)
  Some (None, touching a.0 j (returning a.1 Stored) (zero_of a.1) memop c false)

abbrev pub update_at : ArrayName × ℕ → Elaboration → List ℕ → Elaboration → List ℕ → Elaboration → Names → Option Touching
update_at a i m x n y s = do
  j ← free i s
  get ← memop_at a.1 (seen m s)
  c ← x.core s (Int a.1)
  set ← memop_at a.1 (seen n s)
  d ← y.core s (Int a.1)
  Some (Some a.1, touching a.0 j get c set d true)

-- ---- the forms

abbrev pub touch_step : A-F CallElaboration Elaboration → Names → Option Touching
touch_step (A-F.Get n i) s = array_at (seen n s) >>= (λ a. get_at a i s)
touch_step (A-F.Set n i x) s = array_at (seen n s) >>= (λ a. set_at a i x s)
touch_step (A-F.Getm n i m x) s = array_at (seen n s) >>= (λ a. getm_at a i m x s)
touch_step (A-F.Setm n i m x) s = array_at (seen n s) >>= (λ a. setm_at a i m x s)
touch_step (A-F.Update n i m x k y) s = array_at (seen n s) >>= (λ a. update_at a i m x k y s)

abbrev pub call_lead : A-F CallElaboration Elaboration → Lead
call_lead (A-F.Get n i) = array_lead n
call_lead (A-F.Set n i x) = λ s. None
call_lead (A-F.Getm n i m x) = array_lead n
call_lead (A-F.Setm n i m x) = λ s. None
call_lead (A-F.Update n i m x k y) = array_lead n

abbrev pub call_step : A-F CallElaboration Elaboration → CallElaboration
call_step x = record { lead = call_lead x; touch = touch_step x }

abbrev pub no_condition : Names → ℕ → Option Expr
no_condition s w = None

-- An expression that is no bare name and no condition of a memop.
abbrev pub plain : Lead → (Names → ValueType → Option Expr) → Elaboration
plain lead core = record { lead = lead; bare = None; core = core; condition = no_condition }

abbrev pub no_lead : Lead
no_lead s = None

abbrev pub lead_of : ℕ → Lead
lead_of w s = Some w

abbrev pub step : E-F CallElaboration Elaboration → Elaboration
step (E-F.Number n) = plain no_lead (λ s. number_core n)
step (E-F.Truth b) = plain no_lead (λ s. at_bool (Some (core.Fixed (bits_of 1 (bit_of b)))))
step E-F.Me = plain (lead_of 32) (λ s t. given (same_type (Int 32) t) core.Me)
step E-F.Time = plain (lead_of 32) (λ s t. given (same_type (Int 32) t) core.Now)
step (E-F.Hash w fs) = plain (lead_of w) (hash_core w fs)
step (E-F.Name n) = record { lead = named_lead n; bare = Some n; core = λ s t. name_core t (seen n s); condition = no_condition }
step (E-F.Call n fs) = plain (named_lead n) (λ s t. called n fs s >>= value_of t)
step (E-F.Array f) = plain f.lead (λ s t. f.touch s >>= touch_value t)
step (E-F.Paren f) = record f { bare = None }
step (E-F.Prefix op f) = plain (prefix_lead op f.lead) (prefix_core op f)
step (E-F.Cast w f) = plain (lead_of (stated w)) (λ s t. cast_core (stated w) (free f s) t)
step (E-F.Shift f left k) = plain f.lead (λ s t. at_int (λ w. unary (if left then Shl k else Shr k) (f.core s (Int w))) t)
step (E-F.Infix sign f g) = record {
  lead = infix_lead (arithmetic sign) f.lead g.lead;
  bare = None;
  core = infix_core (arithmetic sign) (comparison sign) (logic sign) f g;
  condition = condition_core (comparison sign) f g;
}

abbrev pub reading : E → Elaboration
reading = fold-E CallElaboration Elaboration call_step step

abbrev pub reading_call : A → CallElaboration
reading_call = fold-A CallElaboration Elaboration call_step step

abbrev pub core_of : E → Names → ValueType → Option Expr
core_of x = (reading x).core

abbrev pub touch_of : A → Names → Option Touching
touch_of x = (reading_call x).touch
