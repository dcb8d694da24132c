use Rattle.std.proofs.Common.{◌<◌, length, arith}
use Rattle.lucid_pass_rewrites.proofs.CoveringLemmas.{nested_next, nested_here, marks_here, take_rest}
use Rattle.lucid_pass_rewrites.proofs.covering.turn.Goals as goal

pub nested_from-nested-requires-clause-nested : goal.nested_from-nested-requires-clause-nested
nested_from-nested-requires-clause-nested c =
    let there : c.saturating_sub.result < length c.args.ops.now = omega (arith, c.requires.there, c.saturating_sub.ensures) in
    nested_next c.args.ops.now c.args.i c.saturating_sub.result c.args.nested c.shared-kept.result c.index-ops-saturating_sub.result c.as_slice.result.now c.as_slice-guard.result.now
    c.saturating_sub.ensures there c.index-ops-saturating_sub.is c.as_slice.ensures c.shared-kept.ensures.alike c.shared-kept.ensures.bound c.requires.nested

pub returns-clause-nested : goal.returns-clause-nested
returns-clause-nested c =
    nested_here c.args.ops.now c.args.i c.nested_from-nested.result c.index-ops-i.result c.as_slice-guard.result.now c.requires.there c.index-ops-i.is c.as_slice-guard.ensures c.nested_from-nested.ensures

pub returns-clause-marks : goal.returns-clause-marks
returns-clause-marks c =
    marks_here c.args.ops.now (length c.args.writers.now) c.args.i c.nested_from-nested.result c.index-ops-i.result c.as_slice-guard.result.now _ c.args.marks.now.items c.mark_each.new.marks.items
    c.requires.there c.index-ops-i.is c.as_slice-guard.ensures c.nested_from-nested.ensures (take_rest c.as_slice-guard.result.now c.nested_from-nested.result) c.mark_each.ensures c.requires.marks
