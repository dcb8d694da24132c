use Rattle.std.proofs.Common.{List, sym, ap, refl}
use Rattle.std.proofs.lemmas.Result.{on_ok_weaker, on_err_weaker}
use Rattle.lucid_base.specs.declared.array.ArrayDef.{ArrayDef}
use Rattle.lucid_io.proofs.Leaves.{Leaves-whole, Leaves-after, PutsAll-last, PutsPart-at, PutsPart-last, on_err}
use Rattle.lucid_log.specs.Cells.{cells_text}
use Rattle.lucid_top.proofs.commands.once.put.Goals as goal

pub returns-in_err-put_block-clause-part : goal.returns-in_err-put_block-clause-part
returns-in_err-put_block-clause-part g c =
    on_err _ (PutsPart-at (cells_text 0 c.args.ran.now.core.arrays c.args.ran.now.cells) Leaves-whole c.in_err-put_block.ensures.part refl)

pub returns-clause-all : goal.returns-clause-all
returns-clause-all g c =
    on_ok_weaker c.put_cells.result
    (λ puts. PutsAll-last (Leaves-after Leaves-whole c.in_ok-put_block.ensures.all refl) puts
    (ap (λ (arrays : List ArrayDef). cells_text 0 arrays c.args.ran.now.cells) (sym c.arrays.ensures.value)))
    c.put_cells.ensures.all

pub returns-clause-part : goal.returns-clause-part
returns-clause-part g c =
    on_err_weaker c.put_cells.result
    (λ cut. PutsPart-last (Leaves-after Leaves-whole c.in_ok-put_block.ensures.all refl) cut
    (ap (λ (arrays : List ArrayDef). cells_text 0 arrays c.args.ran.now.cells) (sym c.arrays.ensures.value)))
    c.put_cells.ensures.part
