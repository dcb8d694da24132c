use Rattle.std.proofs.Common.{◌≡◌, ℕ, ◌<◌, false, get_or, length}
use Rattle.lucid_base.specs.declared.array.ArrayName.{ArrayName}
use Rattle.lucid_constraints.specs.Circle.{comes_first}
use Rattle.lucid_constraints.proofs.cycle.earliest.Given as goal

abbrev pub invariant-loop-i : goal.invariant-loop-i
invariant-loop-i l = record { within : l.least < length l.names; none_before : (k : ℕ) (d : ArrayName) → k < l.i → comes_first (get_or l.names k d) (get_or l.names l.least d) ≡ false }
