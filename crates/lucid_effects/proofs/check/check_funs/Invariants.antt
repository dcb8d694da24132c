use Rattle.std.proofs.Common.{◌≡◌, ◌+◌, ◌*◌, ◌≤◌, length, take, []}
use Rattle.lucid_core.specs.Parts.{CoreParts}
use Rattle.lucid_core.specs.Valid.{IsSound}
use Rattle.lucid_effects_spec.specs.Order.{fun_bodies}
use Rattle.lucid_effects_spec.specs.Size.{fun_nodes}
use Rattle.lucid_effects_spec.specs.SchemeLaws.{steps_a_node}
use Rattle.lucid_effects.specs.First.{IsFirst}
use Rattle.lucid_effects_spec.specs.Schemes.{schemes_of}
use Rattle.lucid_effects.proofs.check.check_funs.Given as goal

abbrev pub invariant-loop-f : goal.invariant-loop-f
invariant-loop-f g l = record {
  schemes : l.judged.schemes.items ≡ schemes_of (take l.f-index l.funs);
  first : IsFirst l.arrays (fun_bodies [] (take l.f-index l.funs)) l.judged.first;
  most : (parts : CoreParts) → IsSound parts → parts.funs ≡ l.funs → length parts.arrays ≡ l.arrays → l.steps ≤ l.fn.steps + fun_nodes (take l.f-index l.funs) * steps_a_node l.arrays;
}
