-- The widths so far, and those that are left.
use Rattle.std.proofs.Common.{◌≡◌, ◌++◌, drop}
use Rattle.lucid_types_spec.specs.Types.{value_widths}
use Rattle.lucid_types_declarations.proofs.parameters.value_widths.Given as goal

abbrev pub invariant-loop-param : goal.invariant-loop-param
invariant-loop-param l = l.widths ++ value_widths (drop l.param-index l.params) ≡ value_widths l.params
