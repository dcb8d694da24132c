-- Programs that break a rule: each is valid except for the comment's fault, and the rule under test refuses it.
use Rattle.std.specs.Prelude.{◌≡◌, ℕ, ◌^◌, List, [], ◌∷◌, ◌++◌, None, Some, Bool, true, false, not, replicate}
use Rattle.std.specs.List.{list_all}
use Rattle.lucid_base.specs.declared.array.ArrayName.TheVariants.{Global, Param}
use Rattle.lucid_base.specs.declared.memory_alu.MemArg.TheVariants.{Fixed}
use Rattle.lucid_base.specs.declared.memory_alu.MemSide.TheVariants.{One}
use Rattle.lucid_base.specs.declared.ops.BinOp.TheVariants.{Add}
use Rattle.lucid_base.specs.declared.ops.UnOp.TheVariants.{Neg}
use Rattle.lucid_core.specs.declared.body.Expr.{Expr}
use Rattle.lucid_core.specs.declared.body.Stmt.{Stmt}
use Rattle.lucid_core.specs.declared.body.Expr.TheOpen.{Expr-F}
use Rattle.lucid_core.specs.declared.body.Expr.TheViews.{roll-Expr, roll-Touch}
use Rattle.lucid_core.specs.Assigned.{reads_follow_assignments}
use Rattle.lucid_core.specs.Events.{events_and_handlers_agree}
use Rattle.lucid_core.specs.ExamplePrograms.{local, number, one, yes, less, hash, call, inlined, assign, drop_value, choose, generate, generate_with}
use Rattle.lucid_core.specs.ExamplePrograms.{to_each, to_each_after, say, return, plus, array, update, update_with, note, bump, handler, bumps}
use Rattle.lucid_core.specs.ExamplePrograms.{handles, program, small, with_bump, with_handler, flat, bump_put_in}
use Rattle.lucid_core.specs.Limits.{declarations_keep_limits, bodies_keep_limits}
use Rattle.lucid_core.specs.Names.{names_are_there}
use Rattle.lucid_core.specs.Numbered.{declarations_are_numbered}
use Rattle.lucid_core.specs.OutCount.{outs_are_few}
use Rattle.lucid_core.specs.Parts.{CoreParts}
use Rattle.lucid_core.specs.Returns.{returns_stand_last}
use Rattle.lucid_core.specs.Syntax.{has_core_syntax, has_flat_syntax}
use Rattle.lucid_core.specs.Texts.{texts_are_filled}
use Rattle.lucid_core.specs.Typing.{widths_agree}
use Rattle.lucid_core.specs.Uses.{locals_are_assigned, inlined_keep_to_themselves}

abbrev pub named_outside : List Stmt
named_outside = drop_value bump_put_in ∷ drop_value (local 2) ∷ []

abbrev pub reads_another : List Stmt
reads_another = drop_value (inlined ((2, one) ∷ []) (return (Some (local 0)) ∷ [])) ∷ []

-- An expression in each place of an expression, and in each place of a statement.
abbrev pub within : Expr → List Expr
within x =
    roll-Expr (Expr-F.Un Neg x)
    ∷ roll-Expr (Expr-F.Bin Add x one)
    ∷ roll-Expr (Expr-F.Bin Add one x)
    ∷ less x one
    ∷ less one x
    ∷ roll-Expr (Expr-F.Cast 8 x)
    ∷ hash 7 x
    ∷ call 0 (Global 0 ∷ []) (x ∷ [])
    ∷ update (Global 0) x plus
    ∷ update_with (Global 0) one plus x one
    ∷ update_with (Global 0) one plus one x
    ∷ []

abbrev pub stands_in : Expr → List Stmt
stands_in x =
    drop_value x
    ∷ assign 2 x
    ∷ choose x [] []
    ∷ choose yes (drop_value x ∷ []) []
    ∷ choose yes [] (drop_value x ∷ [])
    ∷ generate 0 (x ∷ one ∷ [])
    ∷ generate_with 0 (one ∷ one ∷ []) (Some x) None false
    ∷ generate_with 0 (one ∷ one ∷ []) None (Some x) false
    ∷ to_each 0 (x ∷ one ∷ []) (5 ∷ [])
    ∷ to_each_after 0 (one ∷ one ∷ []) (Some x) (5 ∷ [])
    ∷ say 0 (x ∷ [])
    ∷ []

-- The same in the argument and in the statements of an `Inlined`.
abbrev pub inlined_with : Expr → List Expr
inlined_with x = inlined ((2, x) ∷ []) [] ∷ inlined ((2, one) ∷ []) (drop_value x ∷ []) ∷ []

-- A rule refuses each of these: expressions, or statements, before the handler's own.
abbrev pub refuses_exprs : (CoreParts → Bool) → (List Stmt → CoreParts) → List Expr → Bool
refuses_exprs rule program xs = list_all (λ x. not (rule (program (drop_value x ∷ [])))) xs

abbrev pub refuses_stmts : (CoreParts → Bool) → (List Stmt → CoreParts) → List Stmt → Bool
refuses_stmts rule program ss = list_all (λ s. not (rule (program (s ∷ [])))) ss

-- The faults that each rule refuses everywhere: no such local, two widths, a return that isn't the last, nine prints, a local that isn't
-- assigned yet, a hash of nothing, a print without its number, an inlined call, and a call.
abbrev pub nine_prints : Expr
nine_prints = inlined [] (replicate 9 (say 0 (one ∷ [])))

abbrev pub two_returns : Expr
two_returns = inlined [] (return None ∷ return None ∷ [])

abbrev pub empty_print : Expr
empty_print = inlined [] (say 0 [] ∷ [])

abbrev pub hash_of_nothing : Expr
hash_of_nothing = roll-Expr (Expr-F.Hash 32 [])

-- A flat program of this handler, with this many locals more.
abbrev pub flat_with : ℕ → List Stmt → CoreParts
flat_with more ss = record small { funs = []; handlers = record (handler ss) { locals = 32 ∷ 32 ∷ 32 ∷ replicate more 32 } ∷ [] }

-- bump(bump(i)) with both bodies inlined: the inner one is the argument of the outer one.
abbrev pub nested : List Stmt
nested = drop_value (inlined ((2, inlined ((3, local 0) ∷ []) (return (Some (local 3)) ∷ [])) ∷ []) (return (Some (local 2)) ∷ [])) ∷ []

-- The statements of the inner one read a local of the outer one.
abbrev pub inner_reads_outer : List Stmt
inner_reads_outer = drop_value (inlined ((2, one) ∷ []) (drop_value (inlined [] (return (Some (local 2)) ∷ [])) ∷ return (Some (local 2)) ∷ [])) ∷ []

-- Its argument names the local that it is to be held in.
abbrev pub argument_names_own : List Stmt
argument_names_own = assign 2 one ∷ drop_value (inlined ((2, local 2) ∷ []) (return (Some (local 2)) ∷ [])) ∷ []

-- It is held in a parameter of the handler.
abbrev pub holds_in_parameter : List Stmt
holds_in_parameter = drop_value (inlined ((1, one) ∷ []) (return (Some (local 1)) ∷ [])) ∷ assign 2 one ∷ []

-- A group as a flat program has it: its arguments are held, and each member is sent an event.
abbrev pub group_put_in : List Stmt
group_put_in = assign 2 one ∷ generate_with 0 (local 2 ∷ local 2 ∷ []) None (Some (number 5)) false ∷ generate_with 0 (local 2 ∷ local 2 ∷ []) None (Some (number 7)) false ∷ []

-- Each of these breaks the rule that it is tested by.
pub record RulesRefuse : Type 0 where
  pub no_such_local : names_are_there (with_handler (drop_value (local 9) ∷ [])) ≡ false
  pub no_such_array : names_are_there (with_handler (drop_value (update (Global 2) one plus) ∷ [])) ≡ false
  pub no_such_event : names_are_there (with_handler (generate 1 [] ∷ [])) ≡ false
  pub no_such_text : names_are_there (with_handler (say 1 [] ∷ [])) ≡ false
  pub calls_itself : names_are_there (with_bump (return (Some (call 0 (Param 0 ∷ []) (one ∷ []))) ∷ [])) ≡ false
  pub handler_without_event : events_and_handlers_agree (record small { events = record note { handler = None } ∷ [] }) ≡ false
  pub other_parameters : events_and_handlers_agree (record small { events = record note { params = 32 ∷ 16 ∷ [] } ∷ [] }) ≡ false
  pub wide_condition : widths_agree (with_handler (choose one [] [] ∷ [])) ≡ false
  pub narrow_value : widths_agree (with_handler (assign 2 yes ∷ [])) ≡ false
  pub other_memop : widths_agree (with_handler (drop_value (update (Global 0) one (record plus { width = 16 })) ∷ [])) ≡ false
  pub too_few_arguments : widths_agree (with_handler (generate 0 (one ∷ []) ∷ [])) ≡ false
  pub handler_gives_value : widths_agree (program bumps (return (Some one) ∷ [])) ≡ false
  pub return_in_the_middle : returns_stand_last (with_handler (return None ∷ [])) ≡ false
  pub if_returns_in_the_middle : returns_stand_last (with_handler (choose yes (return None ∷ []) [] ∷ [])) ≡ false
  pub returns_on_some_path : returns_stand_last (with_bump (assign 1 one ∷ choose yes (return (Some one) ∷ []) [] ∷ [])) ≡ false
  pub nine_outs : outs_are_few (with_handler (replicate 8 (say 0 (one ∷ [])))) ≡ false
  pub never_assigned : locals_are_assigned (with_bump (return (Some (local 0)) ∷ [])) ≡ false
  pub read_too_early : reads_follow_assignments (with_handler (drop_value (local 2) ∷ [])) ≡ false
  pub assigned_in_one_branch : reads_follow_assignments (with_bump (choose yes (assign 1 one ∷ []) [] ∷ return (Some (local 1)) ∷ [])) ≡ false
  pub empty_array : declarations_keep_limits (record small { arrays = record { name = []; width = 32; size = 0 } ∷ [] }) ≡ false
  pub arrays_65 : declarations_keep_limits (record small { arrays = replicate 65 (record { name = []; width = 32; size = 1 }) }) ≡ false
  pub nine_parameters : declarations_keep_limits (record small { events = record note { params = replicate 9 32 } ∷ [] }) ≡ false
  pub wide_number_in_memop : bodies_keep_limits (with_handler (drop_value (update (Global 0) one (record plus { yes = One (Fixed (2 ^ 32)) })) ∷ [])) ≡ false
  pub ten_hashed : bodies_keep_limits (with_handler (drop_value (roll-Expr (Expr-F.Hash 32 (replicate 10 one))) ∷ [])) ≡ false
  pub argument_without_hole : texts_are_filled (with_handler (say 0 (one ∷ one ∷ []) ∷ [])) ≡ false
  pub member_twice : bodies_keep_limits (with_handler (to_each 0 (one ∷ one ∷ []) (5 ∷ 5 ∷ []) ∷ [])) ≡ false
  pub no_such_switch : bodies_keep_limits (with_handler (to_each 0 (one ∷ one ∷ []) (64 ∷ []) ∷ [])) ≡ false
  pub inlined_in_core : has_core_syntax (with_handler (drop_value (inlined [] []) ∷ [])) ≡ false
  pub call_in_flat : has_flat_syntax (flat handles) ≡ false
  pub named_outside : inlined_keep_to_themselves (flat named_outside) ≡ false
  pub reads_another : inlined_keep_to_themselves (flat reads_another) ≡ false
  pub sometimes_a_value : returns_stand_last (flat (drop_value (inlined ((2, one) ∷ []) (choose yes (return (Some one) ∷ []) [] ∷ [])) ∷ [])) ≡ false
  pub no_value : widths_agree (flat (assign 2 (inlined [] []) ∷ [])) ≡ false
  pub parameters_beyond_locals : names_are_there (record small { funs = record (bump bumps) { params = 3 } ∷ [] }) ≡ false
  pub other_handler : events_and_handlers_agree (record small { events = note ∷ record note { params = [] } ∷ [] }) ≡ false
  pub no_such_handler : events_and_handlers_agree (record small { events = note ∷ record note { handler = Some 1 } ∷ [] }) ≡ false
  pub other_operand : widths_agree (with_handler (drop_value (less one yes) ∷ [])) ≡ false
  pub other_set_memop : widths_agree (with_handler (drop_value (roll-Expr (Expr-F.Array (roll-Touch (record { array = Global 0; index = one; get = plus; get_arg = one; set = record plus { width = 16 }; set_arg = one; answers = true })))) ∷ [])) ≡ false
  pub other_memop_argument : widths_agree (with_handler (drop_value (update_with (Global 0) one plus yes one) ∷ [])) ≡ false
  pub other_set_argument : widths_agree (with_handler (drop_value (update_with (Global 0) one plus one yes) ∷ [])) ≡ false
  pub nine_outs_in_function : outs_are_few (record small { funs = bump bumps ∷ bump (replicate 9 (say 0 (one ∷ [])) ++ bumps) ∷ [] }) ≡ false
  pub read_in_condition : reads_follow_assignments (with_handler (choose (less (local 2) one) [] [] ∷ [])) ≡ false
  pub read_in_call_of_array : reads_follow_assignments (with_handler (drop_value (update (Global 0) (local 2) plus) ∷ [])) ≡ false
  pub read_in_argument : reads_follow_assignments (flat (drop_value (inlined ((2, local 2) ∷ []) (return (Some (local 2)) ∷ [])) ∷ [])) ≡ false
  pub read_in_inlined : reads_follow_assignments (flat (drop_value (inlined [] (return (Some (local 2)) ∷ [])) ∷ [])) ≡ false
  pub size_65537 : declarations_keep_limits (record small { arrays = record { name = []; width = 32; size = 65537 } ∷ [] }) ≡ false
  pub wide_number_in_declared_memop : declarations_keep_limits (record small { memops = record { name = []; alu = record plus { yes = One (Fixed (2 ^ 32)) } } ∷ [] }) ≡ false
  pub nine_arrays : declarations_keep_limits (record small { funs = record (bump bumps) { arrays = replicate 9 32 } ∷ [] }) ≡ false
  pub nine_values : declarations_keep_limits (record small { funs = record (bump bumps) { params = 9 } ∷ [] }) ≡ false
  pub none_hashed : bodies_keep_limits (with_handler (drop_value (roll-Expr (Expr-F.Hash 32 [])) ∷ [])) ≡ false
  pub nine_said : bodies_keep_limits (with_handler (say 0 (replicate 9 one) ∷ [])) ≡ false
  pub nine_sent : bodies_keep_limits (with_handler (generate 0 (replicate 9 one) ∷ [])) ≡ false
  pub no_members : bodies_keep_limits (with_handler (to_each 0 (one ∷ one ∷ []) [] ∷ [])) ≡ false
  pub nine_members : bodies_keep_limits (with_handler (to_each 0 (one ∷ one ∷ []) (0 ∷ 1 ∷ 2 ∷ 3 ∷ 4 ∷ 5 ∷ 6 ∷ 7 ∷ 8 ∷ []) ∷ [])) ≡ false
  pub number_0 : declarations_are_numbered (record small { funs = record (bump bumps) { decl = 0 } ∷ [] }) ≡ false
  pub same_number : declarations_are_numbered (record small { funs = bump bumps ∷ bump bumps ∷ [] }) ≡ false
  pub same_number_of_handlers : declarations_are_numbered (record small { handlers = handler handles ∷ handler handles ∷ [] }) ≡ false
  pub number_of_a_handler : declarations_are_numbered (record small { funs = record (bump bumps) { decl = 5 } ∷ [] }) ≡ false
  pub group_in_flat : has_flat_syntax (flat (to_each 0 (one ∷ one ∷ []) (5 ∷ []) ∷ [])) ≡ false
  pub inner_reads_outer : inlined_keep_to_themselves (flat inner_reads_outer) ≡ false
  pub argument_names_own : inlined_keep_to_themselves (flat argument_names_own) ≡ false
  pub holds_in_parameter : inlined_keep_to_themselves (flat holds_in_parameter) ≡ false
  pub local_in_expressions : refuses_exprs names_are_there with_handler (within (local 9)) ≡ true
  pub local_in_statements : refuses_stmts names_are_there with_handler (stands_in (local 9)) ≡ true
  pub local_in_inlined : refuses_exprs names_are_there with_handler (inlined_with (local 9)) ≡ true
  pub widths_in_expressions : refuses_exprs widths_agree with_handler (within (less one yes)) ≡ true
  pub widths_in_statements : refuses_stmts widths_agree with_handler (stands_in (less one yes)) ≡ true
  pub widths_in_inlined : refuses_exprs widths_agree with_handler (inlined_with (less one yes)) ≡ true
  pub return_in_expressions : refuses_exprs returns_stand_last with_handler (within two_returns) ≡ true
  pub return_in_statements : refuses_stmts returns_stand_last with_handler (stands_in two_returns) ≡ true
  pub return_in_inlined : refuses_exprs returns_stand_last with_handler (inlined_with two_returns) ≡ true
  pub prints_in_expressions : refuses_exprs outs_are_few with_handler (within nine_prints) ≡ true
  pub prints_in_statements : refuses_stmts outs_are_few with_handler (stands_in nine_prints) ≡ true
  pub prints_in_inlined : refuses_exprs outs_are_few with_handler (inlined_with nine_prints) ≡ true
  pub early_in_expressions : refuses_exprs reads_follow_assignments with_handler (within (local 2)) ≡ true
  pub early_in_statements : refuses_stmts reads_follow_assignments with_handler (stands_in (local 2)) ≡ true
  pub hash_in_expressions : refuses_exprs bodies_keep_limits with_handler (within hash_of_nothing) ≡ true
  pub hash_in_statements : refuses_stmts bodies_keep_limits with_handler (stands_in hash_of_nothing) ≡ true
  pub hash_in_inlined : refuses_exprs bodies_keep_limits with_handler (inlined_with hash_of_nothing) ≡ true
  pub text_in_expressions : refuses_exprs texts_are_filled with_handler (within empty_print) ≡ true
  pub text_in_statements : refuses_stmts texts_are_filled with_handler (stands_in empty_print) ≡ true
  pub text_in_inlined : refuses_exprs texts_are_filled with_handler (inlined_with empty_print) ≡ true
  pub inlined_in_expressions : refuses_exprs has_core_syntax with_handler (within (inlined [] [])) ≡ true
  pub inlined_in_statements : refuses_stmts has_core_syntax with_handler (stands_in (inlined [] [])) ≡ true
  pub inlined_in_inlined : refuses_exprs has_core_syntax with_handler (inlined_with (inlined [] [])) ≡ true
  pub call_in_expressions : refuses_exprs has_flat_syntax flat (within (call 0 [] [])) ≡ true
  pub call_in_statements : refuses_stmts has_flat_syntax flat (stands_in (call 0 [] [])) ≡ true
  pub call_in_inlined : refuses_exprs has_flat_syntax flat (inlined_with (call 0 [] [])) ≡ true
  pub no_such_array_given : names_are_there (with_handler (drop_value (call 0 (Global 2 ∷ []) (one ∷ [])) ∷ [])) ≡ false
  pub no_such_array_parameter : names_are_there (with_bump (drop_value (update (Param 1) one plus) ∷ bumps)) ≡ false
  pub no_such_local_assigned : names_are_there (with_handler (assign 9 one ∷ [])) ≡ false
  pub no_such_local_held : names_are_there (flat (drop_value (inlined ((9, one) ∷ []) []) ∷ [])) ≡ false
  pub no_such_event_for_group : names_are_there (with_handler (to_each 1 [] (5 ∷ []) ∷ [])) ≡ false
  pub other_array : widths_agree (record (with_handler (drop_value (call 0 (Global 1 ∷ []) (one ∷ [])) ∷ [])) { arrays = array 4 ∷ record (array 8) { width = 16 } ∷ [] }) ≡ false
  pub other_argument : widths_agree (with_handler (drop_value (call 0 (Global 0 ∷ []) (yes ∷ [])) ∷ [])) ≡ false
  pub other_sum : widths_agree (with_handler (drop_value (roll-Expr (Expr-F.Bin Add one yes)) ∷ [])) ≡ false
  pub other_get_memop : widths_agree (with_handler (drop_value (roll-Expr (Expr-F.Array (roll-Touch (record { array = Global 0; index = one; get = record plus { width = 16 }; get_arg = one; set = plus; set_arg = one; answers = true })))) ∷ [])) ≡ false
  pub other_event_argument : widths_agree (with_handler (generate 0 (one ∷ yes ∷ []) ∷ [])) ≡ false
  pub other_held : widths_agree (flat (drop_value (inlined ((2, yes) ∷ []) []) ∷ [])) ≡ false
  pub two_answers : widths_agree (flat (drop_value (inlined [] (choose yes (return (Some one) ∷ []) (return (Some yes) ∷ []) ∷ [])) ∷ [])) ≡ false
  pub function_gives_other : widths_agree (with_bump (return (Some yes) ∷ [])) ≡ false
  pub wide_number_in_get : bodies_keep_limits (with_handler (drop_value (roll-Expr (Expr-F.Array (roll-Touch (record { array = Global 0; index = one; get = record plus { yes = One (Fixed (2 ^ 32)) }; get_arg = one; set = plus; set_arg = one; answers = true })))) ∷ [])) ≡ false
  pub wide_number_in_set : bodies_keep_limits (with_handler (drop_value (roll-Expr (Expr-F.Array (roll-Touch (record { array = Global 0; index = one; get = plus; get_arg = one; set = record plus { yes = One (Fixed (2 ^ 32)) }; set_arg = one; answers = true })))) ∷ [])) ≡ false
  pub never_assigned_in_handler : locals_are_assigned (flat (drop_value one ∷ [])) ≡ false
  pub return_in_the_middle_of_a_function : returns_stand_last (with_bump (return (Some one) ∷ bumps)) ≡ false
  pub hash_in_function : bodies_keep_limits (with_bump (drop_value hash_of_nothing ∷ bumps)) ≡ false
  pub text_in_function : texts_are_filled (with_bump (say 0 [] ∷ bumps)) ≡ false
  pub inlined_in_function : has_core_syntax (with_bump (drop_value (inlined [] []) ∷ bumps)) ≡ false
  pub nine_sent_to_group : bodies_keep_limits (with_handler (to_each 0 (replicate 9 one) (5 ∷ []) ∷ [])) ≡ false
  pub return_after_another : returns_stand_last (with_handler (drop_value one ∷ return None ∷ [])) ≡ false
  pub bad_returned : returns_stand_last (with_bump (return (Some two_returns) ∷ [])) ≡ false
  pub text_of_a_letter : texts_are_filled (record small { forms = (110 ∷ 100 ∷ []) ∷ [] }) ≡ false
  pub text_of_a_percent_sign : texts_are_filled (record small { forms = (37 ∷ 110 ∷ []) ∷ [] }) ≡ false
  pub returns_in_second_branch : returns_stand_last (with_bump (assign 1 one ∷ choose yes [] (return (Some one) ∷ []) ∷ [])) ≡ false
  pub outs_of_a_call : outs_are_few (with_bump (replicate 8 (say 0 (one ∷ [])) ++ bumps)) ≡ false
  pub nine_sent_one_by_one : outs_are_few (with_handler (replicate 8 (generate 0 (one ∷ one ∷ [])))) ≡ false
  pub nine_sent_with_a_group : outs_are_few (with_handler (to_each 0 (one ∷ one ∷ []) (0 ∷ 1 ∷ 2 ∷ 3 ∷ 4 ∷ 5 ∷ 6 ∷ 7 ∷ []) ∷ [])) ≡ false
  pub silent_call_as_value : widths_agree (with_handler (assign 2 (roll-Expr (Expr-F.Array (roll-Touch (record { array = Global 0; index = one; get = plus; get_arg = one; set = plus; set_arg = one; answers = false })))) ∷ [])) ≡ false
  pub handler_of_no_event : events_and_handlers_agree (record small { events = record note { handler = None } ∷ []; handlers = record (handler handles) { event = 1 } ∷ [] }) ≡ false
