use Rattle.std.proofs.Common.{◌≡◌, ◌<◌, length}
use Rattle.lucid_normal_steps.specs.Notes.{before}
use Rattle.lucid_normal_steps.proofs.notes.swap_back.Given as goal

-- the rest leads to the old operands of the locals, and the undone notes lead again to those at the start
abbrev pub invariant-loop-note : goal.invariant-loop-note
invariant-loop-note l = record {
  held : before l.left l.held ≡ before l.fn.notes l.fn.held;
  end : before l.end.items l.held ≡ l.fn.held;
  some : 0 < length l.held;
}

abbrev pub decreases-loop-note : goal.decreases-loop-note
decreases-loop-note l = length l.left
