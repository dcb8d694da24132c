-- The known names and parts while declarations are typed, as the rules have them.
use Rattle.std.specs.Prelude.{◌≡◌, Option, Some, Result, Ok, Err}
use Rattle.lucid_types_spec.specs.Declaration.{Definitions}
use Rattle.lucid_types_expressions.specs.declared.fault.Fault.{Fault}
use Rattle.lucid_types_expressions.specs.Gives.{Fails}
use Rattle.lucid_types_declarations.specs.declared.known.Known.{Known}

abbrev pub made_of : Known → Definitions
made_of k = record {
  names = k.scope;
  arrays = k.arrays.items;
  memops = k.memops.items;
  events = k.events.items;
  funs = k.funs.items;
  handlers = k.handlers.items;
  forms = k.numbering.forms;
}

-- A declaration turns the known parts into these.
abbrev pub Declares : Result (Unit {0}) Fault → Known → Option Definitions → Type 0
Declares (Ok u) new o = o ≡ Some (made_of new)
Declares (Err f) new o = Fails f o
