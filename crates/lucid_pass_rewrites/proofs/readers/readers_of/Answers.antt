use Rattle.std.proofs.Common.{rules}
use Rattle.lucid_pass_rewrites.proofs.ReadersLemmas.{read_all, read_turn}
use Rattle.lucid_pass_rewrites.proofs.readers.readers_of.Goals as goal

pub loop-at-preserved : goal.loop-at-preserved
loop-at-preserved c = read_turn c.args.fields c.args.ops.now c.loop-at.at c.loop-at.readers.items c.add_reads.new.readers.items c.index-ops-at.result c.loop-at-test.true c.index-ops-at.is c.in_ok-add_reads.ensures c.loop-at.invariant

pub returns : goal.returns
returns c = read_all c.args.fields c.args.ops.now c.loop-at.at c.loop-at.readers.items (search rules) c.loop-at.invariant
