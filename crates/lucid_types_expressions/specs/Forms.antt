-- The results of single functions, in the terms of the typing function.
use Rattle.std.specs.Prelude.{ℕ, List, ◌++◌, Option, Some, Bool, true, false, if◌then◌else◌}
use Rattle.lucid_base.specs.Bits.{bits_of}
use Rattle.lucid_base.specs.Bool.{bit_of}
use Rattle.lucid_base.specs.declared.ops.UnOp.TheVariants.{Shl, Shr}
use Rattle.lucid_core.specs.declared.body.Expr.{Expr}
use Rattle.lucid_core.specs.declared.body.Expr.TheVariants as core
use Rattle.lucid_core.specs.Typing.{◌>>=◌}
use Rattle.lucid_types_spec.specs.declared.scope.ValueType.{ValueType}
use Rattle.lucid_types_spec.specs.declared.scope.ValueType.TheVariants.{Int}
use Rattle.lucid_types_spec.specs.declared.scope.ValueType.TheVariants as vt
use Rattle.lucid_types_spec.specs.Names.{Names, seen}
use Rattle.lucid_types_laws.specs.declared.arguments.Arguments.{Arguments}
use Rattle.lucid_types_laws.specs.Partial.{given}
use Rattle.lucid_types_laws.specs.Reading.{Elaboration, CallElaboration, Touching, array_at, at_bool, at_int, called, get_at, getm_at, same_type, set_at, setm_at, touch_value, unary, update_at, value_of}

abbrev pub is_int : ValueType → Bool
is_int (Int w) = true
is_int vt.Bool = false

abbrev pub truth_core : Bool → ValueType → Option Expr
truth_core b t = at_bool (Some (core.Fixed (bits_of 1 (bit_of b)))) t

-- An expression of 32 bits.
abbrev pub word_core : Expr → ValueType → Option Expr
word_core c t = given (same_type (Int 32) t) c

abbrev pub shift_core : Bool → ℕ → Elaboration → Names → ValueType → Option Expr
shift_core left k f s t = at_int (λ w. unary (if left then Shl k else Shr k) (f.core s (Int w))) t

abbrev pub called_value : List ℕ → List Elaboration → Names → ValueType → Option Expr
called_value n fs s t = called n fs s >>= value_of t

abbrev pub touched_value : CallElaboration → Names → ValueType → Option Expr
touched_value f s t = f.touch s >>= touch_value t

abbrev pub get_of : List ℕ → Elaboration → Names → Option Touching
get_of n i s = array_at (seen n s) >>= (λ a. get_at a i s)

abbrev pub set_of : List ℕ → Elaboration → Elaboration → Names → Option Touching
set_of n i x s = array_at (seen n s) >>= (λ a. set_at a i x s)

abbrev pub getm_of : List ℕ → Elaboration → List ℕ → Elaboration → Names → Option Touching
getm_of n i m x s = array_at (seen n s) >>= (λ a. getm_at a i m x s)

abbrev pub setm_of : List ℕ → Elaboration → List ℕ → Elaboration → Names → Option Touching
setm_of n i m x s = array_at (seen n s) >>= (λ a. setm_at a i m x s)

abbrev pub update_of : List ℕ → Elaboration → List ℕ → Elaboration → List ℕ → Elaboration → Names → Option Touching
update_of n i m x k y s = array_at (seen n s) >>= (λ a. update_at a i m x k y s)

-- ---- the results of loops so far, before the rest

abbrev pub with_front : List Expr → Option (List Expr) → Option (List Expr)
with_front front o = o >>= (λ cs. Some (front ++ cs))

abbrev pub behind : Arguments → Option Arguments → Option Arguments
behind front o = o >>= (λ r. Some (record { names = front.names ++ r.names; values = front.values ++ r.values }))
