-- A number that is seen stands twice.
use Rattle.std.proofs.Common.{◌-◌, arith, get_or}
use Rattle.std.proofs.lemmas.Grind.{common_steps}
use Rattle.lucid_types_scope.proofs.Apart.{repeated}
use Rattle.lucid_types_scope.proofs.distinct.are_distinct.Goals as goal

pub returns-then-not-branch : goal.returns-then-not-branch
returns-then-not-branch c =
    grind (arith, common_steps, repeated c.args.numbers.now c.numbers.left, c.numbers.invariant.seen (get_or c.args.numbers.now (c.numbers.left - 1) 0))
