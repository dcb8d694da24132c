-- What is left of the parameters decides.
use Rattle.std.proofs.Common.{◌≡◌, drop}
use Rattle.lucid_types_laws.specs.Declaration.{int_params}
use Rattle.lucid_types_declarations.specs.Parameters.{with_widths}
use Rattle.lucid_types_declarations.proofs.parameters.int_params.Given as goal

abbrev pub invariant-loop-param : goal.invariant-loop-param
invariant-loop-param l = with_widths l.widths (int_params (drop l.param-index l.params)) ≡ int_params l.params
