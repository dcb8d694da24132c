-- How far the program was read, and what the limits ask of it.
use Rattle.std.proofs.Common.{◌≡◌}
use Rattle.lucid_types_declarations.specs.Known.{made_of}
use Rattle.lucid_types_limits.specs.NewPart.{Knows}
use Rattle.lucid_types.specs.SoFar.{SoFar}
use Rattle.lucid_types.proofs.program.elaborate.Given as goal

abbrev pub invariant-loop-x : goal.invariant-loop-x
invariant-loop-x l = record {
  number : l.number ≡ l.x-index;
  so_far : SoFar l.tree.decls l.x-index (made_of l.known);
  outs : Knows l.known.funs.items l.limits;
}
