-- The parts of a program. Contracts see a `Core` and a `Flat` as their parts; those of a `Flat` have no functions.
use Rattle.std.specs.Prelude.{ℕ, List}
use Rattle.lucid_base.specs.declared.array.ArrayDef.{ArrayDef}
use Rattle.lucid_core.specs.declared.defs.MemopDef.{MemopDef}
use Rattle.lucid_core.specs.declared.defs.EventDef.{EventDef}
use Rattle.lucid_core.specs.declared.defs.FunDef.{FunDef}
use Rattle.lucid_core.specs.declared.defs.HandlerDef.{HandlerDef}

-- Each list is numbered from 0; `forms` are the texts of the prints.
pub record CoreParts : Type 0 where
  pub arrays : List ArrayDef
  pub memops : List MemopDef
  pub events : List EventDef
  pub funs : List FunDef
  pub handlers : List HandlerDef
  pub forms : List (List ℕ)

abbrev pub made_of : List ArrayDef → List MemopDef → List EventDef → List FunDef → List HandlerDef → List (List ℕ) → CoreParts
made_of arrays memops events funs handlers forms = record {
  arrays = arrays;
  memops = memops;
  events = events;
  funs = funs;
  handlers = handlers;
  forms = forms;
}
