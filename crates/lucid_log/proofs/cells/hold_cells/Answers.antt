use Rattle.lucid_io.proofs.Leaves.{Leaves-held, Leaves-held_all, PutsPart-held, on_err}
use Rattle.lucid_log.proofs.Lines.{arrays_from-next, arrays_from-none}
use Rattle.lucid_log.proofs.cells.hold_cells.Goals as goal

pub returns-in_err-hold_array-clause-part : goal.returns-in_err-hold_array-clause-part
returns-in_err-hold_array-clause-part g c =
    on_err _ (PutsPart-held c.loop-number.room _ _ c.loop-number.invariant c.in_err-hold_array.ensures.part
    (arrays_from-next c.args.switch _ c.args.arrays.now c.loop-number.number _ _ c.loop-number-test.true c.index-arrays-number.is c.bytes-name.ensures.value))

pub loop-number-preserved : goal.loop-number-preserved
loop-number-preserved g c =
    Leaves-held c.loop-number.room _ _ _ c.loop-number.invariant c.in_ok-hold_array.ensures.all
    (arrays_from-next c.args.switch _ c.args.arrays.now c.loop-number.number _ _ c.loop-number-test.true c.index-arrays-number.is c.bytes-name.ensures.value)

pub returns-clause-all : goal.returns-clause-all
returns-clause-all g c =
    Leaves-held_all c.loop-number.room c.loop-number.invariant
    (arrays_from-none c.args.switch (g.C.ArrayCells.held c.args.cells.now) c.args.arrays.now c.loop-number.number c.loop-number-test.false)
