use Rattle.std.proofs.Common.{◌≡◌, drop}
use Rattle.lucid_core.specs.Fits.{args_fit}
use Rattle.lucid_core.proofs.fits.args_fit.Given as goal

abbrev pub invariant-loop-i : goal.invariant-loop-i
invariant-loop-i l = args_fit (drop l.i l.params) (drop l.i l.args) ≡ args_fit l.params l.args
