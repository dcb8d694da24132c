-- The answers of calls on parameters.
use Rattle.std.specs.Prelude.{◌≡◌, ℕ, ◌+◌, List, [], ◌∷◌, ◌++◌, Option, Some, Result, Ok, Err}
use Rattle.lucid_base.specs.declared.array.ArrayName.TheVariants as array_name
use Rattle.lucid_core.specs.Typing.{◌>>=◌}
use Rattle.lucid_parse_tree.specs.declared.tree.P.{P}
use Rattle.lucid_parse_tree.specs.declared.tree.P.TheVariants as p
use Rattle.lucid_types_spec.specs.declared.scope.Entry.TheVariants as entry
use Rattle.lucid_types_spec.specs.declared.scope.Param.{Param}
use Rattle.lucid_types_spec.specs.declared.scope.Param.TheVariants as param
use Rattle.lucid_types_spec.specs.Names.{Names, called}
use Rattle.lucid_types_laws.specs.Declaration.{int_params, parameters}
use Rattle.lucid_types_laws.specs.Partial.{given}
use Rattle.lucid_types_laws.specs.Reading.{is_width}
use Rattle.lucid_types_laws.specs.Statement.{type_of}
use Rattle.lucid_types_expressions.specs.declared.fault.Fault.{Fault}
use Rattle.lucid_types_expressions.specs.Gives.{Fails}
use Rattle.lucid_types_declarations.specs.declared.parameters.Entered.{Entered}

-- Parameters, with these names behind them.
abbrev pub Enters : Result (List Param) Fault → Names → Option (List Param × Names) → Type 0
Enters (Ok ps) s o = o ≡ Some (ps, s)
Enters (Err f) s o = Fails f o

-- One parameter more, and the names with its own.
abbrev pub one_more : Entered → Names → P → Option (Entered × Names)
one_more f s (p.Value t n) = do
  v ← type_of t
  Some (record { params = f.params ++ param.Value v ∷ []; values = f.values + 1; arrays = f.arrays }, called n (entry.Local f.values v) ∷ s)
one_more f s (p.Array short w n) =
    given (is_width w) (
      record { params = f.params ++ param.Array w ∷ []; values = f.values; arrays = f.arrays + 1 },
      called n (entry.Array (array_name.Param f.arrays) w) ∷ s,
    )

abbrev pub EntersOne : Result (Unit {0}) Fault → Entered → Names → Option (Entered × Names) → Type 0
EntersOne (Ok u) f s o = o ≡ Some (f, s)
EntersOne (Err e) f s o = Fails e o

-- Parameters before those of the rest, and widths.
abbrev pub with_params : List Param → Option (List Param × Names) → Option (List Param × Names)
with_params front o = o >>= (λ q. Some (front ++ q.0, q.1))

abbrev pub with_widths : List ℕ → Option (List ℕ) → Option (List ℕ)
with_widths front o = o >>= (λ ws. Some (front ++ ws))

-- The widths of the parameters of an event.
abbrev pub event_params : List P → Names → Option (List ℕ)
event_params ps s = parameters 0 0 s ps >>= (λ qs. int_params qs.0)
