use Rattle.std.proofs.Common.{◌≡◌, drop}
use Rattle.lucid_normal_steps.specs.Added.{added}
use Rattle.lucid_normal_join.specs.Changes.{changes_joined, with_locals}
use Rattle.lucid_normal_steps.specs.Notes.{before}
use Rattle.lucid_normal_join.proofs.joining.join_changes.Given as goal

-- the joined part and the rest make the whole, and the notes lead back
abbrev pub invariant-loop-change : goal.invariant-loop-change
invariant-loop-change l = record {
  env : with_locals l.env (changes_joined l.at.level l.at.condition (drop l.change-index l.changes) l.env.held l.env.widths)
      ≡ with_locals l.fn.env (changes_joined l.at.level l.at.condition l.changes l.fn.env.held l.fn.env.widths);
  ops : added l.context.guard.now l.work.ops.items (changes_joined l.at.level l.at.condition (drop l.change-index l.changes) l.env.held l.env.widths).ops
      ≡ added l.context.guard.now l.fn.work.ops.items (changes_joined l.at.level l.at.condition l.changes l.fn.env.held l.fn.env.widths).ops;
  back : before l.work.notes.items l.env.held ≡ before l.fn.work.notes.items l.fn.env.held;
}
