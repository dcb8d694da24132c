use Rattle.std.proofs.Common.{refl}
use Rattle.lucid_pass_more_spec.proofs.examples.more_passes_do_what_is_worked_by_hand.Goals as goal

pub returns : goal.returns
returns c = record {
  cast_moves = refl;
  others_stay = refl;
  copies_stop = refl;
  copies_go_on = refl;
  narrow_stops = refl;
  lifts = refl;
  in_any_order = refl;
  other_reader_stays = refl;
  writers_stay_apart = refl;
  never_stays = refl;
  own_test_stays = refl;
  call_stays = refl;
  print_stays = refl;
  event_stays = refl;
  beside_call = refl;
  tests_source = refl;
  says_they_differ = refl;
  says_they_do_not = refl;
  narrow_source_stays = refl;
  two_sources_stay = refl;
  outside_stays = refl;
  inside_goes = refl;
  fewer_bits_stay = refl;
  wide_number_stays = refl;
  equality_stays = refl;
  merges = refl;
  read_answer_stays = refl;
  other_guard_stays = refl;
  narrow_answer_stays = refl;
  sum_stays = refl;
}
