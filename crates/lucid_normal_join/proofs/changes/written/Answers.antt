use Rattle.std.proofs.Common.{rules, ◌≡◌, ◌++◌}
use Rattle.std.proofs.lemmas.List.Filters.{dedup_is}
use Rattle.std.proofs.lemmas.List.Kept.{Contains-dedup_nat}
use Rattle.std.proofs.lemmas.List.Sorted.{Contains-permutation}
use Rattle.std.proofs.lemmas.Map.Keys.{IsStrictlyIncreasing-dedup}
use Rattle.lucid_normal_steps.specs.Notes.{noted}
use Rattle.lucid_normal_join.proofs.changes.written.Goals as goal

pub returns-clause-rise : goal.returns-clause-rise
returns-clause-rise c =
    let is = dedup_is _ _ _ c.dedup.ensures.filtered in
    rw is (IsStrictlyIncreasing-dedup _ c.sort_unstable.ensures.sorted)

pub returns-clause-whole : goal.returns-clause-whole
returns-clause-whole c =
    let is = dedup_is _ _ _ c.dedup.ensures.filtered in
    let both : c.gather-2.new.locals.items ≡ noted c.args.first.now ++ noted c.args.second.now = search rules in
    λ i h. rw is (Contains-dedup_nat _ i (Contains-permutation _ _ i c.sort_unstable.ensures.permutation (rw both h)))
