use Rattle.std.proofs.Common.{◌≡◌, ◌++◌, drop}
use Rattle.lucid_normal_spec.specs.Program.{held_from}
use Rattle.lucid_normal.proofs.handlers.parameters.Given as goal

-- the visited part and the rest make the whole
abbrev pub invariant-loop-i : goal.invariant-loop-i
invariant-loop-i l = l.held ++ held_from l.k (drop l.i l.params) (drop l.i l.locals) ≡ held_from 3 l.params l.locals
