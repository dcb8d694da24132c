use Rattle.lucid_net.specs.Leaving.{gone_run}
use Rattle.lucid_net.proofs.Moved.{Moves}
use Rattle.lucid_net.proofs.moving.move_on.Given as goal

-- All from this slot on have moved.
abbrev pub invariant-loop-i : goal.invariant-loop-i
invariant-loop-i l = Moves l.fn.pipe l.pipe (gone_run l.gone) l.stages l.i
