use Rattle.std.proofs.Common.{◌≡◌, [], ◌∷◌, ◌++◌, sym, ◌∙◌, ap, subst, rules}
use Rattle.std.specs.List.{AllByRecursion}
use Rattle.lucid_queue.specs.Kept.{IsByKey, all_from}
use Rattle.lucid_queue.proofs.ByKey.{by_key_further}
use Rattle.lucid_queue.proofs.Reaching.{one_further}
use Rattle.lucid_queue.proofs.switches.reach.Goals as goal

pub loop-alloc-preserved : goal.loop-alloc-preserved
loop-alloc-preserved c =
    let longer : c.push.new.self.items ≡ c.loop-alloc.turns.items ++ [] ∷ [] = search rules in (
      ap (all_from 0) longer ∙ one_further 0 c.loop-alloc.turns.items ∙ c.loop-alloc.invariant.0,
      λ sorted. subst (AllByRecursion IsByKey) (sym longer) (by_key_further c.loop-alloc.turns.items (c.loop-alloc.invariant.1 sorted)),
    )
