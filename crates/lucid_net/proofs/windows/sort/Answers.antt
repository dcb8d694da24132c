use Rattle.std.proofs.Common.{sym, rules}
use Rattle.std.proofs.lemmas.List.Sorted.{IsNonDecreasingBy-from_sort_by_key, list_any-IsPermutation}
use Rattle.lucid_net.specs.Windows.{holds}
use Rattle.lucid_net.proofs.windows.sort.Goals as goal

pub returns-clause-rise : goal.returns-clause-rise
returns-clause-rise c = IsNonDecreasingBy-from_sort_by_key (λ s. s.from) _ c.sort_unstable_by_key.ensures.sorted (λ a r q k. search rules)

pub returns-clause-same : goal.returns-clause-same
returns-clause-same c = λ tick. sym (list_any-IsPermutation (holds tick) _ _ c.sort_unstable_by_key.ensures.permutation)
