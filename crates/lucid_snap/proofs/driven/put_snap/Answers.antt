use Rattle.std.proofs.Common.{List, ◌++◌, codes, sym, ap, refl}
use Rattle.std.proofs.lemmas.Result.{on_err_weaker, on_ok_weaker}
use Rattle.lucid_base.specs.declared.array.ArrayDef.{ArrayDef}
use Rattle.lucid_io.proofs.Leaves.{Leaves-after, Leaves-whole, PutsAll-last, PutsPart-at, PutsPart-last, on_err}
use Rattle.lucid_log.specs.Cells.{cells_text}
use Rattle.lucid_drive.specs.Drive.{line}
use Rattle.lucid_snap.proofs.driven.put_snap.Goals as goal

pub returns-in_err-put_pieces-clause-part : goal.returns-in_err-put_pieces-clause-part
returns-in_err-put_pieces-clause-part g c =
    on_err c.from_residual.result (PutsPart-at (cells_text 0 c.args.core.now.arrays c.args.snap.now.copies) Leaves-whole c.in_err-put_pieces.ensures.part refl)

pub returns-clause-all : goal.returns-clause-all
returns-clause-all g c =
    on_ok_weaker c.put_cells.result
    (λ put. PutsAll-last
    (Leaves-after Leaves-whole c.in_ok-put_pieces.ensures.all
    (ap (λ (l : List ArrayDef). line (codes "snap after ") c.args.entered ++ cells_text 0 l c.args.snap.now.copies) (sym c.arrays.ensures.value)))
    put refl)
    c.put_cells.ensures.all

pub returns-clause-part : goal.returns-clause-part
returns-clause-part g c =
    on_err_weaker c.put_cells.result
    (λ cut. PutsPart-last
    (Leaves-after Leaves-whole c.in_ok-put_pieces.ensures.all
    (ap (λ (l : List ArrayDef). line (codes "snap after ") c.args.entered ++ cells_text 0 l c.args.snap.now.copies) (sym c.arrays.ensures.value)))
    cut refl)
    c.put_cells.ensures.part
