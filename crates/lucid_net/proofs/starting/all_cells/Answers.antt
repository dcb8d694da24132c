use Rattle.std.proofs.Common.{[], ◌∷◌, ◌++◌, ◌∙◌, ap, replicate, arith}
use Rattle.std.proofs.lemmas.List.{replicate_more}
use Rattle.std.proofs.lemmas.Grind.{common_steps}
use Rattle.lucid_base.specs.Cells.{zero_cells}
use Rattle.lucid_net.proofs.starting.all_cells.Goals as goal

pub loop-index-preserved : goal.loop-index-preserved
loop-index-preserved c =
    let l = c.loop-index in
    c.in_ok-push.ensures.items
    ∙ ap (λ all. all ++ c.in_ok-cells.cells ∷ []) l.invariant
    ∙ ap (λ cells. replicate l._index (zero_cells c.args.core.now.arrays) ++ cells ∷ []) c.in_ok-cells.ensures.zero
    ∙ replicate_more l._index (zero_cells c.args.core.now.arrays)

pub returns-in_err-push : goal.returns-in_err-push
returns-in_err-push c = grind (arith, common_steps)

pub returns-in_err-cells : goal.returns-in_err-cells
returns-in_err-cells c = grind (arith, common_steps)
