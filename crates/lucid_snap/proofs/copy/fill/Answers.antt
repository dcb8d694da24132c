use Rattle.std.proofs.Common.{◌<◌, length, length-set, ◌∙◌, arith}
use Rattle.lucid_base.specs.Cells.{row_of}
use Rattle.lucid_snap.proofs.Copying.{fill_next}
use Rattle.lucid_snap.proofs.copy.fill.Goals as goal

pub loop-at-preserved : goal.loop-at-preserved
loop-at-preserved c =
    let want = row_of c.args.pipe.now.cells c.args.array in
    let below : c.loop-at.at < length (row_of c.args.pipe.now.cells c.args.array) = omega (arith, c.loop-at-test.true, c.len-at-end.ensures, c.requires) in
    rw c.set.ensures (
      length-set c.loop-at.row _ _ ∙ c.loop-at.invariant.0,
      fill_next c.loop-at.row want c.loop-at.at c.look.result below c.loop-at.invariant.0 c.look.ensures.value c.loop-at.invariant.1,
    )
