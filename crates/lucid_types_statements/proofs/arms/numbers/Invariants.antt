-- The numbers of the cases so far.
use Rattle.std.proofs.Common.{◌≡◌, map, take}
use Rattle.lucid_types_statements.proofs.arms.numbers.Given as goal

abbrev pub invariant-loop-case : goal.invariant-loop-case
invariant-loop-case l = l.numbers ≡ map (λ z. z.0) (take l.case-index l.cases)
