use Rattle.std.proofs.Common.{◌≡◌, ◌-◌}
use Rattle.lucid_constraints.specs.Numbers.{settle}
use Rattle.lucid_constraints.proofs.numbers.lift_until_they_rise.Given as goal

abbrev pub invariant-loop-turn : goal.invariant-loop-turn
invariant-loop-turn l = settle (l.rounds - l._turn) l.pairs l.arrays l.numbers ≡ settle l.rounds l.pairs l.arrays l.fn.numbers
