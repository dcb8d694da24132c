use Rattle.std.proofs.Common.{◌≡◌, rules, subst}
use Rattle.std.specs.List.{Contains}
use Rattle.std.proofs.lemmas.List.Filters.{dedup_is}
use Rattle.std.proofs.lemmas.List.Kept.{Contains-dedup_nat, Contains-from_dedup}
use Rattle.std.proofs.lemmas.List.Sorted.{Contains-permutation, IsPermutation-sym}
use Rattle.std.proofs.lemmas.Map.Keys.{IsStrictlyIncreasing-dedup}
use Rattle.lucid_size.proofs.widths.rising.Goals as goal

pub returns : goal.returns
returns c =
    let is = dedup_is _ _ _ c.dedup.ensures.filtered in
    let both : c.extend_from_slice.new.self.items ≡ c.args.row.now = search rules in
    record {
      rise = rw is (IsStrictlyIncreasing-dedup _ c.sort_unstable.ensures.sorted);
      has = λ n h. rw is (Contains-dedup_nat _ n (Contains-permutation _ _ n c.sort_unstable.ensures.permutation (rw both h)));
      only = λ n h. subst (λ l. Contains l n) both
          (Contains-permutation _ _ n (IsPermutation-sym _ _ c.sort_unstable.ensures.permutation)
          (Contains-from_dedup _ _ n (subst (λ l. Contains l n) is h)));
    }
