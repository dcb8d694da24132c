use Rattle.std.proofs.Common.{[], ◌∷◌, ◌++◌, ◌∙◌, ap, replicate, arith}
use Rattle.std.proofs.lemmas.List.{replicate_more}
use Rattle.std.proofs.lemmas.Grind.{common_steps}
use Rattle.lucid_pipe.specs.Pipe.{empty_pipe}
use Rattle.lucid_net.proofs.starting.all_pipes.Goals as goal

pub loop-index-preserved : goal.loop-index-preserved
loop-index-preserved c =
    let l = c.loop-index in
    c.in_ok-push.ensures.items
    ∙ ap (λ all. all ++ c.in_ok-pipe.pipe ∷ []) l.invariant
    ∙ ap (λ p. replicate l._index (empty_pipe c.args.placed.now) ++ p ∷ []) c.in_ok-pipe.ensures
    ∙ replicate_more l._index (empty_pipe c.args.placed.now)

pub returns : goal.returns
returns c = grind (arith, common_steps)
