use Rattle.std.proofs.Common.{◌≡◌, drop}
use Rattle.lucid_normal_steps.specs.Notes.{before}
use Rattle.lucid_normal_spec.specs.Translate.{holding}
use Rattle.lucid_normal_steps.proofs.calls.hold_all.Given as goal

-- the rest is bound after the visited part; and the notes lead back
abbrev pub invariant-loop-i : goal.invariant-loop-i
invariant-loop-i l = record {
  held : holding l.held (drop l.i-index l.given) ≡ holding l.fn.held l.given;
  back : before l.notes.items l.held ≡ before l.fn.notes.items l.fn.held;
}
