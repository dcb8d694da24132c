use Rattle.lucid_code.proofs.CopyLemmas.{copied_more}
use Rattle.lucid_code.proofs.copy.copy_arrays.Goals as goal

pub loop-array-preserved : goal.loop-array-preserved
loop-array-preserved c =
    copied_more c.args.arrays.now c.loop-array.array-index c.array-item.result _ _ c.loop-array-test.true c.array-item.is c.loop-array.invariant
    c.in_ok-push_array.ensures
