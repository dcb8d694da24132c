use Rattle.std.proofs.Common.{◌∙◌, [], ◌∷◌, ◌++◌, false, ap, sym}
use Rattle.lucid_pipe.proofs.Handing.{free_more}
use Rattle.lucid_pipe.proofs.slots.free_slots.Goals as goal

pub loop-block-preserved : goal.loop-block-preserved
loop-block-preserved c =
    let block = c.loop-block.block in
    c.in_ok-push.ensures.items ∙ ap (λ slots. slots ++ record { block = block; taken = false } ∷ []) c.loop-block.invariant ∙ sym (free_more block)
