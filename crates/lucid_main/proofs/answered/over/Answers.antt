use Rattle.lucid_main.proofs.AnsweredLemmas.{with_ours}
use Rattle.lucid_main.proofs.answered.over.Goals as goal

pub returns-clause-ended : goal.returns-clause-ended
returns-clause-ended g c =
    with_ours (λ b. (goal.Pass-dyn g (b.vtable, b.value)).called b.value) (λ b. (goal.Pass-dyn g (b.vtable, b.value)).gives b.value) (λ b. (goal.Pass-dyn g (b.vtable, b.value)).count b.value)
    c.in_ok-passes.passes.items _ c.lucid.ensures.ended c.args.first c.args.second c.args.third c.args.last c.in_ok-passes.ensures
    c.requires.fold c.requires.copies c.requires.dead c.requires.direct c.requires.folds c.requires.replaces c.requires.removes c.requires.directs
