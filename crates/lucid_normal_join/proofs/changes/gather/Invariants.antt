use Rattle.std.proofs.Common.{◌≡◌, ◌++◌, drop}
use Rattle.lucid_normal_steps.specs.Notes.{noted}
use Rattle.lucid_normal_join.proofs.changes.gather.Given as goal

-- the visited part and the rest make the whole
abbrev pub invariant-loop-note : goal.invariant-loop-note
invariant-loop-note l = l.locals.items ++ noted (drop l.note-index l.notes) ≡ l.fn.locals.items ++ noted l.notes
