-- The numbers behind this place are seen, and none of them stands twice.
use Rattle.std.proofs.Common.{◌≡◌, ◌≤◌, ℕ, true, drop, length, nat_eq}
use Rattle.std.specs.HashSet.{contains}
use Rattle.lucid_base.specs.Numbers.{all_differ, is_in}
use Rattle.lucid_types_scope.proofs.distinct.are_distinct.Given as goal

abbrev pub invariant-numbers : goal.invariant-numbers
invariant-numbers l = record {
  within : l.left ≤ length l.numbers;
  apart : all_differ (drop l.left l.numbers) ≡ true;
  seen : (n : ℕ) → contains nat_eq l.seen n ≡ is_in n (drop l.left l.numbers);
}

abbrev pub decreases-numbers : goal.decreases-numbers
decreases-numbers l = l.left
