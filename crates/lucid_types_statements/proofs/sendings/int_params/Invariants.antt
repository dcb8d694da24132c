-- The parameters so far.
use Rattle.std.proofs.Common.{◌≡◌, take}
use Rattle.lucid_types_spec.specs.Types.{ints}
use Rattle.lucid_types_statements.proofs.sendings.int_params.Given as goal

abbrev pub invariant-loop-width : goal.invariant-loop-width
invariant-loop-width l = l.params ≡ ints (take l.width-index l.widths)
