-- The small program is a valid core, and each rule refuses what breaks it.
use Rattle.std.proofs.Common.{◌≡◌, [], ◌∷◌, ◌&&◌, true, refl, ap}
use Rattle.lucid_core.specs.Uses.{body_uses, all_keep_to_themselves}
use Rattle.lucid_core.specs.ExamplePrograms.{small, flat, bump_put_in, drop_value}
use Rattle.lucid_tests.specs.Refused.{named_outside, reads_another, nested, inner_reads_outer, argument_names_own, holds_in_parameter, group_put_in, flat_with, RulesRefuse}
use Rattle.lucid_tests.specs.StepExamples.{look, say_bump, say_unless_small, say_hash, counting, group, worked}
use Rattle.lucid_tests.specs.FormExamples.{say_now, say_me, say_negated, say_less_one, say_is_some, say_low_byte, values, set_cell, say_cell, say_counted, count_cell, calls_of_array, say_nested, sent_at_once, sent_later, sent_away, sent_to_each, sends, next, twice_next, formed}
use Rattle.lucid_core.specs.Parts.{made_of}
use Rattle.lucid_core.specs.Valid.{IsValid, IsValidFlat}
use Rattle.lucid_core.proofs.Folds.{folds}

pub small_is_valid : IsValid small
small_is_valid = record {
  sound = record {
    names = simp folds refl;
    events = refl;
    widths = simp folds refl;
    returns = simp folds refl;
    outs = simp folds refl;
    assigned = simp folds refl;
    reads = simp folds refl;
    declarations = refl;
    bodies = simp folds refl;
    texts = simp folds refl;
    numbered = refl;
  };
  syntax = simp folds refl;
}

pub worked_is_valid : IsValid worked
unfolding look say_bump say_unless_small say_hash counting group
worked_is_valid = record {
  sound = record {
    names = simp folds refl;
    events = refl;
    widths = simp folds refl;
    returns = simp folds refl;
    outs = simp folds refl;
    assigned = simp folds refl;
    reads = simp folds refl;
    declarations = refl;
    bodies = simp folds refl;
    texts = simp folds refl;
    numbered = refl;
  };
  syntax = simp folds refl;
}

pub formed_is_valid : IsValid formed
unfolding say_now say_me say_negated say_less_one say_is_some say_low_byte values set_cell say_cell say_counted count_cell calls_of_array say_nested sent_at_once sent_later sent_away sent_to_each sends next twice_next
formed_is_valid = record {
  sound = record {
    names = simp folds refl;
    events = refl;
    widths = simp folds refl;
    returns = simp folds refl;
    outs = simp folds refl;
    assigned = refl;
    reads = simp folds refl;
    declarations = refl;
    bodies = simp folds refl;
    texts = simp folds refl;
    numbered = refl;
  };
  syntax = simp folds refl;
}

pub empty_is_valid : IsValidFlat (made_of [] [] [] [] [] [])
empty_is_valid = record {
  sound = record {
    names = refl;
    events = refl;
    widths = refl;
    returns = refl;
    outs = refl;
    assigned = refl;
    reads = refl;
    declarations = refl;
    bodies = refl;
    texts = refl;
    numbered = refl;
  };
  syntax = refl;
  no_functions = refl;
  inlined = refl;
}

put_in_uses : body_uses (drop_value bump_put_in ∷ []) ≡ record { reads = 0 ∷ 2 ∷ []; assigns = 2 ∷ []; inlined = record { assigns = 2 ∷ []; reads = 2 ∷ []; names = 2 ∷ 2 ∷ [] } ∷ [] }
put_in_uses = simp folds refl

outside_uses : body_uses named_outside ≡ record { reads = 0 ∷ 2 ∷ 2 ∷ []; assigns = 2 ∷ []; inlined = record { assigns = 2 ∷ []; reads = 2 ∷ []; names = 2 ∷ 2 ∷ [] } ∷ [] }
outside_uses = simp folds refl

another_uses : body_uses reads_another ≡ record { reads = 0 ∷ []; assigns = 2 ∷ []; inlined = record { assigns = 2 ∷ []; reads = 0 ∷ []; names = 0 ∷ 2 ∷ [] } ∷ [] }
another_uses = simp folds refl

inner_uses : body_uses inner_reads_outer ≡ record { reads = 2 ∷ 2 ∷ []; assigns = 2 ∷ []; inlined = record { assigns = 2 ∷ []; reads = 2 ∷ 2 ∷ []; names = 2 ∷ 2 ∷ 2 ∷ [] } ∷ record { assigns = []; reads = 2 ∷ []; names = 2 ∷ [] } ∷ [] }
inner_uses = simp folds refl

own_uses : body_uses argument_names_own ≡ record { reads = 2 ∷ 2 ∷ []; assigns = 2 ∷ 2 ∷ []; inlined = record { assigns = 2 ∷ []; reads = 2 ∷ []; names = 2 ∷ 2 ∷ [] } ∷ [] }
own_uses = simp folds refl

parameter_uses : body_uses holds_in_parameter ≡ record { reads = 1 ∷ []; assigns = 1 ∷ 2 ∷ []; inlined = record { assigns = 1 ∷ []; reads = 1 ∷ []; names = 1 ∷ 1 ∷ [] } ∷ [] }
parameter_uses = simp folds refl

nested_uses : body_uses nested ≡ record { reads = 0 ∷ 3 ∷ 2 ∷ []; assigns = 3 ∷ 2 ∷ []; inlined = record { assigns = 2 ∷ []; reads = 2 ∷ []; names = 2 ∷ 2 ∷ [] } ∷ record { assigns = 3 ∷ []; reads = 3 ∷ []; names = 3 ∷ 3 ∷ [] } ∷ [] }
nested_uses = simp folds refl

group_uses : body_uses group_put_in ≡ record { reads = 2 ∷ 2 ∷ 2 ∷ 2 ∷ []; assigns = 2 ∷ []; inlined = [] }
group_uses = simp folds refl

pub nested_is_valid : IsValidFlat (flat_with 1 nested)
nested_is_valid = record {
  sound = record {
    names = simp folds refl;
    events = refl;
    widths = simp folds refl;
    returns = simp folds refl;
    outs = simp folds refl;
    assigned = simp folds refl;
    reads = simp folds refl;
    declarations = refl;
    bodies = simp folds refl;
    texts = simp folds refl;
    numbered = refl;
  };
  syntax = simp folds refl;
  no_functions = refl;
  inlined = ap (λ u. all_keep_to_themselves 2 u && true) nested_uses;
}

pub group_is_valid : IsValidFlat (flat group_put_in)
group_is_valid = record {
  sound = record {
    names = simp folds refl;
    events = refl;
    widths = simp folds refl;
    returns = simp folds refl;
    outs = simp folds refl;
    assigned = simp folds refl;
    reads = simp folds refl;
    declarations = refl;
    bodies = simp folds refl;
    texts = simp folds refl;
    numbered = refl;
  };
  syntax = simp folds refl;
  no_functions = refl;
  inlined = ap (λ u. all_keep_to_themselves 2 u && true) group_uses;
}

pub flat_is_valid : IsValidFlat (flat (drop_value bump_put_in ∷ []))
flat_is_valid = record {
  sound = record {
    names = simp folds refl;
    events = refl;
    widths = simp folds refl;
    returns = simp folds refl;
    outs = simp folds refl;
    assigned = simp folds refl;
    reads = simp folds refl;
    declarations = refl;
    bodies = simp folds refl;
    texts = simp folds refl;
    numbered = refl;
  };
  syntax = simp folds refl;
  no_functions = refl;
  inlined = ap (λ u. all_keep_to_themselves 2 u && true) put_in_uses;
}

pub rules_refuse : RulesRefuse
rules_refuse = record {
  no_such_local = simp folds refl;
  no_such_array = simp folds refl;
  no_such_event = simp folds refl;
  no_such_text = simp folds refl;
  calls_itself = simp folds refl;
  handler_without_event = refl;
  other_parameters = refl;
  wide_condition = simp folds refl;
  narrow_value = simp folds refl;
  other_memop = simp folds refl;
  too_few_arguments = simp folds refl;
  handler_gives_value = simp folds refl;
  return_in_the_middle = simp folds refl;
  if_returns_in_the_middle = simp folds refl;
  returns_on_some_path = simp folds refl;
  nine_outs = simp folds refl;
  never_assigned = simp folds refl;
  read_too_early = simp folds refl;
  assigned_in_one_branch = simp folds refl;
  empty_array = refl;
  arrays_65 = refl;
  nine_parameters = refl;
  wide_number_in_memop = simp folds refl;
  ten_hashed = simp folds refl;
  argument_without_hole = simp folds refl;
  member_twice = simp folds refl;
  no_such_switch = simp folds refl;
  inlined_in_core = simp folds refl;
  call_in_flat = simp folds refl;
  named_outside = ap (λ u. all_keep_to_themselves 2 u && true) outside_uses;
  reads_another = ap (λ u. all_keep_to_themselves 2 u && true) another_uses;
  sometimes_a_value = simp folds refl;
  no_value = simp folds refl;
  parameters_beyond_locals = simp folds refl;
  other_handler = refl;
  no_such_handler = refl;
  other_operand = simp folds refl;
  other_set_memop = simp folds refl;
  other_memop_argument = simp folds refl;
  other_set_argument = simp folds refl;
  nine_outs_in_function = simp folds refl;
  read_in_condition = simp folds refl;
  read_in_call_of_array = simp folds refl;
  read_in_argument = simp folds refl;
  read_in_inlined = simp folds refl;
  size_65537 = refl;
  wide_number_in_declared_memop = refl;
  nine_arrays = refl;
  nine_values = refl;
  none_hashed = simp folds refl;
  nine_said = simp folds refl;
  nine_sent = simp folds refl;
  no_members = simp folds refl;
  nine_members = simp folds refl;
  number_0 = refl;
  same_number = refl;
  same_number_of_handlers = refl;
  number_of_a_handler = refl;
  group_in_flat = simp folds refl;
  inner_reads_outer = ap (λ u. all_keep_to_themselves 2 u && true) inner_uses;
  argument_names_own = ap (λ u. all_keep_to_themselves 2 u && true) own_uses;
  holds_in_parameter = ap (λ u. all_keep_to_themselves 2 u && true) parameter_uses;
  local_in_expressions = simp folds refl;
  local_in_statements = simp folds refl;
  local_in_inlined = simp folds refl;
  widths_in_expressions = simp folds refl;
  widths_in_statements = simp folds refl;
  widths_in_inlined = simp folds refl;
  return_in_expressions = simp folds refl;
  return_in_statements = simp folds refl;
  return_in_inlined = simp folds refl;
  prints_in_expressions = simp folds refl;
  prints_in_statements = simp folds refl;
  prints_in_inlined = simp folds refl;
  early_in_expressions = simp folds refl;
  early_in_statements = simp folds refl;
  hash_in_expressions = simp folds refl;
  hash_in_statements = simp folds refl;
  hash_in_inlined = simp folds refl;
  text_in_expressions = simp folds refl;
  text_in_statements = simp folds refl;
  text_in_inlined = simp folds refl;
  inlined_in_expressions = simp folds refl;
  inlined_in_statements = simp folds refl;
  inlined_in_inlined = simp folds refl;
  call_in_expressions = simp folds refl;
  call_in_statements = simp folds refl;
  call_in_inlined = simp folds refl;
  no_such_array_given = simp folds refl;
  no_such_array_parameter = simp folds refl;
  no_such_local_assigned = simp folds refl;
  no_such_local_held = simp folds refl;
  no_such_event_for_group = simp folds refl;
  other_array = simp folds refl;
  other_argument = simp folds refl;
  other_sum = simp folds refl;
  other_get_memop = simp folds refl;
  other_event_argument = simp folds refl;
  other_held = simp folds refl;
  two_answers = simp folds refl;
  function_gives_other = simp folds refl;
  wide_number_in_get = simp folds refl;
  wide_number_in_set = simp folds refl;
  never_assigned_in_handler = simp folds refl;
  return_in_the_middle_of_a_function = simp folds refl;
  hash_in_function = simp folds refl;
  text_in_function = simp folds refl;
  inlined_in_function = simp folds refl;
  nine_sent_to_group = simp folds refl;
  return_after_another = simp folds refl;
  bad_returned = simp folds refl;
  text_of_a_letter = simp folds refl;
  text_of_a_percent_sign = simp folds refl;
  returns_in_second_branch = simp folds refl;
  outs_of_a_call = simp folds refl;
  nine_sent_one_by_one = simp folds refl;
  nine_sent_with_a_group = simp folds refl;
  silent_call_as_value = simp folds refl;
  handler_of_no_event = refl;
}
