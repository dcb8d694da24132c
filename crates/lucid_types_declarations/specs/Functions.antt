-- Functions, in the words of the typing function.
use Rattle.std.specs.Prelude.{ℕ, List, [], ◌∷◌, ◌++◌, Option, length}
use Rattle.lucid_core.specs.declared.defs.FunDef.{FunDef}
use Rattle.lucid_types_spec.specs.declared.scope.Entry.TheVariants as entry
use Rattle.lucid_types_spec.specs.declared.scope.Param.{Param}
use Rattle.lucid_types_spec.specs.declared.scope.ValueType.{ValueType}
use Rattle.lucid_types_spec.specs.Declaration.{Definitions}
use Rattle.lucid_types_spec.specs.Names.{called}

-- With a function of this name, parameters and answer.
abbrev pub with_fun : List ℕ → FunDef → List Param → Option ValueType → Definitions → Definitions
with_fun n f qs t m = record m { names = called n (entry.Fun (length m.funs) qs t) ∷ m.names; funs = m.funs ++ f ∷ [] }
