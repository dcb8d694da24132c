use Rattle.lucid_code.proofs.CopyLemmas.{copied_more}
use Rattle.lucid_code.proofs.copy.copy_ops.Goals as goal

pub loop-op-preserved : goal.loop-op-preserved
loop-op-preserved c =
    copied_more c.args.ops.now c.loop-op.op-index c.op-item.result _ _ c.loop-op-test.true c.op-item.is c.loop-op.invariant
    c.in_ok-push_op.ensures
