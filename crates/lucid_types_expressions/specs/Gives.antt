-- How a call answers a function that may have no answer.
use Rattle.std.specs.Prelude.{◌≡◌, Option, None, Some, Result, Ok, Err}
use Rattle.lucid_types_expressions.specs.declared.fault.Fault.{Fault}
use Rattle.lucid_types_expressions.specs.declared.fault.Fault.TheVariants.{NoRule, Memory}

abbrev pub Fails : {A : Type 0} → Fault → Option A → Type 0
Fails NoRule o = o ≡ None
Fails Memory o = Unit {0}

-- The answer is the result of the function, unless memory ran out.
abbrev pub Gives : {A : Type 0} → Result A Fault → Option A → Type 0
Gives (Ok x) o = o ≡ Some x
Gives (Err f) o = Fails f o
