use Rattle.lucid_pass_rewrites.proofs.ComparisonsLemmas.{read_turn}
use Rattle.lucid_pass_rewrites.proofs.direct.read_of.Goals as goal

pub loop-op-preserved : goal.loop-op-preserved
loop-op-preserved c = read_turn c.args.fields c.args.ops.now c.loop-op.op-index c.op-item.result c.loop-op.read.items c.mark_reads.new.read.items c.loop-op-test.true c.op-item.is c.in_ok-mark_reads.ensures c.loop-op.invariant
