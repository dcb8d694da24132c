use Rattle.std.proofs.Common.{List, ◌++◌, sym, ap, refl}
use Rattle.std.proofs.lemmas.Result.{on_err_weaker, on_ok_weaker}
use Rattle.lucid_base.specs.declared.array.ArrayDef.{ArrayDef}
use Rattle.lucid_io.proofs.Leaves.{Leaves-after, Leaves-whole, PutsAll-last, PutsPart-at, PutsPart-last, on_err}
use Rattle.lucid_log.specs.Cells.{cells_text}
use Rattle.lucid_drive.specs.Drive.{ending_text}
use Rattle.lucid_drive.proofs.ending.put_end.Goals as goal

pub returns-in_err-put_cells-clause-part : goal.returns-in_err-put_cells-clause-part
returns-in_err-put_cells-clause-part g c =
    on_err _ (PutsPart-at (ending_text c.args.entered c.args.left) Leaves-whole c.in_err-put_cells.ensures.part
    (ap (λ (l : List ArrayDef). cells_text 0 l c.args.pipe.now.cells ++ ending_text c.args.entered c.args.left) (sym c.arrays.ensures.value)))

pub returns-clause-all : goal.returns-clause-all
returns-clause-all g c =
    on_ok_weaker c.put_pieces.result
    (λ puts. PutsAll-last
    (Leaves-after Leaves-whole c.in_ok-put_cells.ensures.all
    (ap (λ (l : List ArrayDef). cells_text 0 l c.args.pipe.now.cells ++ ending_text c.args.entered c.args.left) (sym c.arrays.ensures.value)))
    puts refl)
    c.put_pieces.ensures.all

pub returns-clause-part : goal.returns-clause-part
returns-clause-part g c =
    on_err_weaker c.put_pieces.result
    (λ cut. PutsPart-last
    (Leaves-after Leaves-whole c.in_ok-put_cells.ensures.all
    (ap (λ (l : List ArrayDef). cells_text 0 l c.args.pipe.now.cells ++ ending_text c.args.entered c.args.left) (sym c.arrays.ensures.value)))
    cut refl)
    c.put_pieces.ensures.part
