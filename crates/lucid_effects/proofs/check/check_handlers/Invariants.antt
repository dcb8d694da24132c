use Rattle.std.proofs.Common.{◌≡◌, ◌++◌, List, take, ◌+◌, ◌*◌, ◌≤◌, length}
use Rattle.lucid_core.specs.declared.defs.FunDef.{FunDef}
use Rattle.lucid_core.specs.Parts.{CoreParts}
use Rattle.lucid_core.specs.Valid.{IsSound}
use Rattle.lucid_effects_spec.specs.Size.{handler_nodes}
use Rattle.lucid_effects_spec.specs.SchemeLaws.{steps_a_node}
use Rattle.lucid_effects_spec.specs.Order.{Body, handler_bodies}
use Rattle.lucid_effects.specs.First.{IsFirst}
use Rattle.lucid_effects_spec.specs.Schemes.{handler_schemes, schemes_of}
use Rattle.lucid_effects.proofs.check.check_handlers.Given as goal

abbrev pub invariant-loop-h : goal.invariant-loop-h
invariant-loop-h g l = record {
  schemes : l.judged.schemes.items ≡ l.fn.judged.schemes.items ++ handler_schemes l.fn.judged.schemes.items (take l.h-index l.handlers);
  first : (funs : List FunDef) → l.fn.judged.schemes.items ≡ schemes_of funs → (bs : List Body) → IsFirst l.arrays bs l.fn.judged.first → IsFirst l.arrays (bs ++ handler_bodies funs (take l.h-index l.handlers)) l.judged.first;
  most : (parts : CoreParts) → IsSound parts → l.fn.judged.schemes.items ≡ schemes_of parts.funs → parts.handlers ≡ l.handlers → length parts.arrays ≡ l.arrays → l.steps ≤ l.fn.steps + handler_nodes (take l.h-index l.handlers) * steps_a_node l.arrays;
}
