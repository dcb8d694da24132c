use Rattle.std.proofs.Common.{◌∙◌, ◌+◌, sym, ap, subst}
use Rattle.lucid_pass_rewrites.specs.Changed.{change_of, standing}
use Rattle.lucid_pass_rewrites.proofs.ChangedLemmas.{Turn, turn_more}
use Rattle.lucid_pass_rewrites.proofs.changed.changed.Goals as goal

pub loop-op-preserved : goal.loop-op-preserved
loop-op-preserved c =
    subst (λ l. Turn c.args.looks c.args.widths.now c.args.ops.now c.in_ok-writers.writers.items l (c.loop-op.op-index + 1)) (sym c.in_ok-push.ensures.items)
    (turn_more c.args.looks c.args.widths.now c.args.ops.now c.in_ok-writers.writers.items c.loop-op.done.items c.loop-op.op-index c.loop-op.invariant c.op-item.result c.in_ok-new.new c.loop-op-test.true c.op-item.is
    (c.in_ok-new.ensures ∙ ap (λ l. change_of c.args.looks c.args.widths.now (standing l c.args.ops.now) c.op-item.result) c.as_slice-in-loop-op.ensures.value))
