use Rattle.std.proofs.Common.{◌≡◌, length}
use Rattle.lucid_normal_steps.specs.Notes.{before}
use Rattle.lucid_normal_steps.proofs.notes.put_back.Given as goal

abbrev pub invariant-loop-note : goal.invariant-loop-note
invariant-loop-note l = before l.left l.held ≡ before l.fn.notes l.fn.held

abbrev pub decreases-loop-note : goal.decreases-loop-note
decreases-loop-note l = length l.left
