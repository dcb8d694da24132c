use Rattle.std.proofs.Common.{◌∙◌, ◌∷◌, ◌++◌, [], ap₂}
use Rattle.std.proofs.lemmas.List.{replicate_more}
use Rattle.lucid_pass_more.proofs.users.no_users.Goals as goal

pub loop-turn-preserved : goal.loop-turn-preserved
loop-turn-preserved c =
    c.in_ok-push.ensures.items ∙ ap₂ (λ l x. l ++ x ∷ []) c.loop-turn.invariant c.new.ensures ∙ replicate_more c.loop-turn._turn []
