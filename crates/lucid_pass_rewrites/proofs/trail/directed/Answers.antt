use Rattle.std.proofs.Common.{rules, ◌<◌, length}
use Rattle.lucid_pass_rewrites.specs.Comparisons.{direct_by}
use Rattle.lucid_pass_rewrites.proofs.TrailLemmas.{directed_more}
use Rattle.lucid_pass_rewrites.proofs.trail.directed.Goals as goal

pub loop-i-preserved : goal.loop-i-preserved
loop-i-preserved c =
    let below : c.loop-i.i < length c.args.ops.now = search rules in (
      directed_more (direct_by c.args.table.now) c.args.ops.now c.loop-i.i c.index-ops-i.result c.in_ok-op.op c.as_slice.result.now c.turn.new.made.items c.loop-i.new.items c.push-in-loop-i.new.self.items
          below c.index-ops-i.is c.in_ok-op.ensures c.as_slice.ensures.value c.in_ok-long.ensures.made c.loop-i.invariant.0 c.in_ok-push-2.ensures.items,
      c.in_ok-long.ensures.trail,
    )
