use Rattle.std.proofs.Common.{◌≡◌, ◌++◌, drop}
use Rattle.lucid_normal_spec.specs.Program.{widest}
use Rattle.lucid_normal.proofs.inputs.widest.Given as goal

-- the visited part and the rest make the whole
abbrev pub invariant-loop-i : goal.invariant-loop-i
invariant-loop-i l = l.widths ++ widest (drop l.i l.xs) (drop l.i l.ys) ≡ widest l.xs l.ys
