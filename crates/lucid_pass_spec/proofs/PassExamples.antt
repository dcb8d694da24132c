-- The examples of specs/Examples hold by computation.
use Rattle.std.proofs.Common.{refl}
use Rattle.lucid_pass_spec.specs.Examples.{PassExamples}

pub pass_examples : PassExamples
pass_examples = record {
  dead_alone_of_both_branches = refl;
  fold_of_both_branches = refl;
  copies_of_both_branches = refl;
  dead_of_both_branches = refl;
  direct_of_both_branches = refl;
  dead_alone_of_cases = refl;
  fold_of_cases = refl;
  copies_of_cases = refl;
  dead_of_cases = refl;
  direct_of_cases = refl;
  folds_on = refl;
  folds_comparison = refl;
  folds_under_guard = refl;
  other_guard_stays = refl;
  two_writers_stay = refl;
  guards_stay = refl;
  copies_on = refl;
  narrow_stays = refl;
  number_stays = refl;
  dead_with_reader = refl;
  call_stays = refl;
  says_it_holds = refl;
  says_it_does_not = refl;
  once_only = refl;
  read_comparison_stays = refl;
  uncovered_stays = refl;
  number_first_stays = refl;
  narrow_comparison_stays = refl;
  wide_number_stays = refl;
  other_comparison_stays = refl;
}
