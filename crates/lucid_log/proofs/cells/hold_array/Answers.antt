use Rattle.lucid_io.proofs.Leaves.{Leaves-held, Leaves-held_all, PutsPart-held, on_err}
use Rattle.lucid_log.proofs.Lines.{lines_from-next, lines_from-none}
use Rattle.lucid_log.proofs.cells.hold_array.Goals as goal

pub returns-in_err-hold_shown-clause-part : goal.returns-in_err-hold_shown-clause-part
returns-in_err-hold_shown-clause-part g c =
    on_err _ (PutsPart-held c.loop-cell.room _ _ c.loop-cell.invariant c.in_err-hold_shown.ensures.part
    (lines_from-next c.args.switch _ c.args.array c.args.name.now c.args.size c.loop-cell.cell c.value-value.result c.loop-cell-test.true c.value-value.ensures))

pub loop-cell-preserved : goal.loop-cell-preserved
loop-cell-preserved g c =
    Leaves-held c.loop-cell.room _ _ _ c.loop-cell.invariant c.in_ok-hold_shown.ensures.all
    (lines_from-next c.args.switch _ c.args.array c.args.name.now c.args.size c.loop-cell.cell c.value-value.result c.loop-cell-test.true c.value-value.ensures)

pub returns-clause-all : goal.returns-clause-all
returns-clause-all g c =
    Leaves-held_all c.loop-cell.room c.loop-cell.invariant
    (lines_from-none c.args.switch (g.C.ArrayCells.held c.args.cells.now) c.args.array c.args.name.now c.args.size c.loop-cell.cell c.loop-cell-test.false)
