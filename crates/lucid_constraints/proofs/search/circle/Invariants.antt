use Rattle.std.proofs.Common.{◌+◌, ◌*◌, length}
use Rattle.lucid_constraints.specs.Circle.{needed}
use Rattle.lucid_constraints.proofs.CircleWalk.{Walking}
use Rattle.lucid_constraints.proofs.search.circle.Given as goal

abbrev pub invariant-walk : goal.invariant-walk
invariant-walk l = Walking (needed l.fn.pairs.items l.arrays) (needed l.pairs.items l.arrays) l.fn.names.items l.path.items l.waiting.items

abbrev pub decreases-walk : goal.decreases-walk
decreases-walk l = 2 * length l.waiting.items + length l.path.items + length l.pairs.items
