use Rattle.std.proofs.Common.{◌≡◌, []}
use Rattle.lucid_core.specs.Width.{expr_width}
use Rattle.lucid_inline.proofs.widths.width_of.Given as goal

abbrev pub invariant-loop-head : goal.invariant-loop-head
invariant-loop-head l = expr_width l.head l.locals [] ≡ expr_width l.e l.locals []
