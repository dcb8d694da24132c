use Rattle.std.proofs.Common.{◌∙◌}
use Rattle.std.proofs.lemmas.Result.{on_ok_weaker}
use Rattle.lucid_normal_join.proofs.ChangesLemmas.{joined_env, joined_ops}
use Rattle.lucid_normal_join.proofs.joining.join_written.Goals as goal

pub returns-clause-env : goal.returns-clause-env
returns-clause-env c =
    on_ok_weaker c.join_changes.result (λ h. h ∙ joined_env c.args.at.level c.args.at.condition c.args.env.now c.changes_of.new.held c.args.first c.args.second c.in_ok-changes.changes.items
    c.in_ok-changes.ensures.held c.in_ok-changes.ensures.changes) (rw c.as_slice.ensures.value at c.join_changes.ensures.env)

pub returns-clause-ops : goal.returns-clause-ops
returns-clause-ops c =
    on_ok_weaker c.join_changes.result (λ h. h ∙ joined_ops c.args.at.level c.args.at.condition c.args.context.guard.now c.args.work.now.ops.items c.args.env.now.held c.changes_of.new.held c.args.first
    c.args.second c.in_ok-changes.changes.items c.args.env.now.widths c.in_ok-changes.ensures.held c.in_ok-changes.ensures.changes) (rw c.as_slice.ensures.value at c.join_changes.ensures.ops)
