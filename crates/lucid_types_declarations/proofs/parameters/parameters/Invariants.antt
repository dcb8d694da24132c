-- What is left of the parameters decides; the names so far keep those before.
use Rattle.std.proofs.Common.{◌≡◌, drop}
use Rattle.lucid_types_laws.specs.Declaration.{parameters}
use Rattle.lucid_types_statements.specs.Kept.{Keeps}
use Rattle.lucid_types_declarations.specs.Parameters.{with_params}
use Rattle.lucid_types_declarations.proofs.parameters.parameters.Given as goal

abbrev pub invariant-loop-p : goal.invariant-loop-p
invariant-loop-p l = record {
  left : with_params l.entered.params (parameters l.entered.values l.entered.arrays l.scope (drop l.p-index l.ps))
      ≡ parameters 0 0 l.fn.scope l.ps;
  kept : Keeps l.fn.scope l.scope;
}
