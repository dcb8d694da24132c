use Rattle.std.proofs.Common.{◌≡◌, ◌-◌, suc, length}
use Rattle.std.specs.List.{AllByRecursion}
use Rattle.lucid_queue.specs.Kept.{IsByKey, all_from}
use Rattle.lucid_queue.proofs.switches.reach.Given as goal

abbrev pub invariant-loop-alloc : goal.invariant-loop-alloc
invariant-loop-alloc l = (all_from 0 l.turns.items ≡ all_from 0 l.initial.turns.items) × (AllByRecursion IsByKey l.initial.turns.items → AllByRecursion IsByKey l.turns.items)

abbrev pub decreases-loop-alloc : goal.decreases-loop-alloc
decreases-loop-alloc l = suc l.switch - length l.turns.items
