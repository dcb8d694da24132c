use Rattle.lucid_code.specs.Shared.{end_of}
use Rattle.lucid_code.proofs.CopyLemmas.{made_more}
use Rattle.lucid_code.proofs.apart.ends_of.Goals as goal

pub loop-op-preserved : goal.loop-op-preserved
loop-op-preserved c =
    made_more end_of c.args.ops.now c.loop-op.op-index c.op-item.result c.end_of.result _ _ c.loop-op-test.true c.op-item.is c.end_of.ensures
    c.loop-op.invariant c.in_ok-push.ensures.items
