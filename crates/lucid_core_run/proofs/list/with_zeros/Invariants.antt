use Rattle.std.proofs.Common.{◌≡◌, ◌++◌, map, drop}
use Rattle.lucid_base.specs.Bits.{bits_of}
use Rattle.lucid_core.specs.Computations.{begun_with}
use Rattle.lucid_core_run.proofs.list.with_zeros.Given as goal

abbrev pub invariant-loop-i : goal.invariant-loop-i
invariant-loop-i l = l.locals ++ map (λ w. bits_of w 0) (drop l.i l.widths) ≡ begun_with l.fn.values l.widths
