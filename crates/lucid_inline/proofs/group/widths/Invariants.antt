use Rattle.std.proofs.Common.{◌≡◌, map, take}
use Rattle.lucid_inline_spec.specs.Flat.{width_in}
use Rattle.lucid_inline.proofs.group.widths.Given as goal

abbrev pub invariant-loop-e : goal.invariant-loop-e
invariant-loop-e l = l.ws ≡ map (width_in l.locals) (take l.e-index l.held)
