use Rattle.std.proofs.Common.{◌<◌, length, arith}
use Rattle.lucid_pass_rewrites.specs.Comparisons.{direct_by}
use Rattle.lucid_pass_rewrites.proofs.TrailLemmas.{trail_here, trail_made, trail_next}
use Rattle.lucid_pass_rewrites.proofs.trail.turn.Goals as goal

pub extend-requires : goal.extend-requires
extend-requires c =
    let there : c.saturating_sub.result < length c.args.ops.now = omega (arith, c.requires.there, c.saturating_sub.ensures) in
    trail_next (direct_by c.args.table.now) c.args.ops.now c.args.i c.saturating_sub.result c.args.long c.shared-kept.result c.index-ops-saturating_sub.result c.as_slice.result.now c.as_slice-guard.result.now
    c.args.made.now.items c.cut.new.made.items c.args.ends.now.items c.cut.new.ends.items
    c.saturating_sub.ensures there c.index-ops-saturating_sub.is c.as_slice.ensures c.shared-kept.ensures.alike c.shared-kept.ensures.bound c.requires.trail c.cut.ensures.made c.cut.ensures.ends

pub returns-clause-trail : goal.returns-clause-trail
returns-clause-trail c =
    trail_here (direct_by c.args.table.now) c.args.ops.now c.args.i (length c.as_slice-guard.result.now) c.index-ops-i.result c.as_slice-guard.result.now c.extend.new.made.items c.extend.new.ends.items
    c.requires.there c.index-ops-i.is c.as_slice-guard.ensures c.in_ok-extend.ensures

pub returns-clause-made : goal.returns-clause-made
returns-clause-made c =
    trail_made (direct_by c.args.table.now) c.args.ops.now c.args.i c.index-ops-i.result c.as_slice-guard.result.now c.extend.new.made.items c.extend.new.ends.items
    c.requires.there c.index-ops-i.is c.as_slice-guard.ensures c.in_ok-extend.ensures
