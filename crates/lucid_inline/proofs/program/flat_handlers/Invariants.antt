use Rattle.std.proofs.Common.{◌≡◌, map, take}
use Rattle.lucid_inline_spec.specs.Flat.{flat_handler}
use Rattle.lucid_inline.proofs.program.flat_handlers.Given as goal

abbrev pub invariant-loop-handler : goal.invariant-loop-handler
invariant-loop-handler l = l.made.items ≡ map (flat_handler l.funs) (take l.handler-index l.handlers)
