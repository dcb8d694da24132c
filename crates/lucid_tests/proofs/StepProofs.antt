-- The worked examples of the step, computed by the meaning of each part at one frame and one state.
use Rattle.std.proofs.Common.{ℕ, Bool, false, true, ◌≡◌, refl, ap, List, [], ◌∷◌, ◌++◌, fold, map, take, Some, slice_index_or, ◌∙◌}
use Rattle.lucid_base.specs.Bits.{bits_of}
use Rattle.lucid_base.specs.declared.bits.Bits.{Bits}
use Rattle.lucid_base.specs.declared.array.ArrayName.{ArrayName}
use Rattle.lucid_base.specs.declared.array.ArrayName.TheVariants.{Global, Param}
use Rattle.lucid_core.specs.declared.body.Expr.{Expr}
use Rattle.lucid_core.specs.declared.body.Stmt.{Stmt}
use Rattle.lucid_core.specs.declared.body.Touch.{Touch}
use Rattle.lucid_core.specs.declared.body.Expr.TheOpen.{Expr-F, Stmt-F, Touch-F}
use Rattle.lucid_core.specs.declared.body.Expr.TheViews.{roll-Expr, roll-Stmt, roll-Touch}
use Rattle.lucid_core.specs.declared.body.Expr.TheFolds.{fold-roll-Expr, fold-roll-Stmt, fold-roll-Touch, map-Expr, map-Stmt, map-Touch}
use Rattle.lucid_core.specs.Computations.{Computation, Effect, Frame, Fun, State, block, called, begun_with}
use Rattle.lucid_core.specs.ExamplePrograms.{local, say, return, plus, update, bumps, bump_put_in}
use Rattle.lucid_core.proofs.Folds.{folds}
use Rattle.lucid_base.specs.Cells.{zero_cells}
use Rattle.lucid_core.specs.Meaning.{effect_of, value_of, touch_of, expr_step, stmt_step, touch_step}
use Rattle.lucid_tests.specs.StepExamples.{StepExamples, look, say_bump, say_unless_small, say_hash, counting, group, say_indexed, start, two_events, worked}
use Rattle.lucid_core.specs.Step.{Entry, Stepped, Steps, started, taken_at}

-- What a part of a body does, by what its parts do.
value_run : (y : Expr-F Expr Stmt Touch) (p : Frame) (s : State) → value_of (roll-Expr y) p s ≡ expr_step (map-Expr Expr Stmt Touch (Computation Bits) Effect (Computation Bits) value_of effect_of touch_of y) p s
value_run y p s = ap (λ (f : Computation Bits). f p s) (fold-roll-Expr (Computation Bits) Effect (Computation Bits) expr_step stmt_step touch_step y)

effect_run : (y : Stmt-F Expr Stmt Touch) (p : Frame) (s : State) → effect_of (roll-Stmt y) p s ≡ stmt_step (map-Stmt Expr Stmt Touch (Computation Bits) Effect (Computation Bits) value_of effect_of touch_of y) p s
effect_run y p s = ap (λ (f : Effect). f p s) (fold-roll-Stmt (Computation Bits) Effect (Computation Bits) expr_step stmt_step touch_step y)

touch_run : (y : Touch-F Expr Stmt Touch) (p : Frame) (s : State) → touch_of (roll-Touch y) p s ≡ touch_step (map-Touch Expr Stmt Touch (Computation Bits) Effect (Computation Bits) value_of effect_of touch_of y) p s
touch_run y p s = ap (λ (f : Computation Bits). f p s) (fold-roll-Touch (Computation Bits) Effect (Computation Bits) expr_step stmt_step touch_step y)

ruleset runs = (value_run, effect_run, touch_run)

-- Array.update(a, i, plus, 1, plus, 1), where the index does this, and where it is this local.
abbrev counts_at : ArrayName → Computation Bits → Computation Bits
counts_at a i = expr_step (Expr-F.Array (touch_step (record { array = a; index = i; get = plus; get_arg = expr_step (Expr-F.Fixed (bits_of 32 1)); set = plus; set_arg = expr_step (Expr-F.Fixed (bits_of 32 1)); answers = true })))

abbrev counts : ArrayName → ℕ → Computation Bits
counts a i = counts_at a (expr_step (Expr-F.Local i))

-- What the body of `bump` does.
abbrev bump_acts : List Effect
bump_acts = stmt_step (Stmt-F.Assign 1 (counts (Param 0) 0)) ∷ stmt_step (Stmt-F.Return (Some (expr_step (Expr-F.Local 1)))) ∷ []

bump_does : map effect_of bumps ≡ bump_acts
bump_does = simp folds refl

-- What the events do whose delay, target or both count.
counting_does : (delay_first : Bool) → effect_of (counting delay_first) ≡ stmt_step (Stmt-F.Gen 6 (expr_step (Expr-F.Local 0) ∷ []) (Some (counts (Global 0) 0)) (Some (counts (Global 0) 0)) delay_first)
unfolding counting
counting_does delay_first = simp folds refl

group_does : effect_of group ≡ stmt_step (Stmt-F.Multi 6 (expr_step (Expr-F.Local 0) ∷ []) (Some (counts (Global 0) 0)) (4 ∷ 2 ∷ []))
unfolding group
group_does = simp folds refl

indexed_does : effect_of say_indexed ≡ stmt_step (Stmt-F.Say 0 (counts_at (Global 0) (counts (Global 1) 0) ∷ []))
indexed_does = simp folds refl

-- A print of a call with its body put in, where its argument, held by local 2, and its body do this.
abbrev put_in : Computation Bits → Effect → Effect
put_in arg body = stmt_step (Stmt-F.Say 0 (expr_step (Expr-F.Inlined ((2, arg) ∷ []) (body ∷ [])) ∷ []))

abbrev bump_again : Stmt
bump_again = return (Some (update (Global 0) (local 2) plus))

bump_again_does : effect_of bump_again ≡ stmt_step (Stmt-F.Return (Some (counts (Global 0) 2)))
bump_again_does = simp folds refl

put_in_does : effect_of (say 0 (bump_put_in ∷ [])) ≡ put_in (expr_step (Expr-F.Local 0)) (stmt_step (Stmt-F.Return (Some (counts (Global 0) 2))))
put_in_does =
    fold-roll-Stmt (Computation Bits) Effect (Computation Bits) expr_step stmt_step touch_step (Stmt-F.Say 0 (bump_put_in ∷ []))
    ∙ ap (λ (act : Computation Bits). stmt_step (Stmt-F.Say 0 (act ∷ []))) (fold-roll-Expr (Computation Bits) Effect (Computation Bits) expr_step stmt_step touch_step (Expr-F.Inlined ((2, local 0) ∷ []) (bump_again ∷ [])))
    ∙ ap (λ (act : Computation Bits). put_in act (effect_of bump_again)) (fold-roll-Expr (Computation Bits) Effect (Computation Bits) expr_step stmt_step touch_step (Expr-F.Local 0))
    ∙ ap (put_in (expr_step (Expr-F.Local 0))) bump_again_does

-- What the handler with the two calls does.
abbrev says : List Effect
says = map (λ a. stmt_step (Stmt-F.Say 0 (expr_step (Expr-F.Fun 0 (Global a ∷ []) (expr_step (Expr-F.Local 0) ∷ [])) ∷ []))) (0 ∷ 1 ∷ [])

says_do : map effect_of (say_bump 0 ∷ say_bump 1 ∷ []) ≡ says
unfolding say_bump
says_do = simp folds refl

-- What an event gives, on these cells, whose handler has these functions, locals of these widths, these arguments and a body that does this.
abbrev given_by : List (List ℕ) → ℕ → ℕ → List Fun → List ℕ → List ℕ → List Effect → Stepped × List ℕ
given_by cells now me funs widths args body =
    let ran = block body (record { now = now; me = me; arrays = []; funs = funs }) (started cells (begun_with (taken_at widths args) widths)) in
    (record { cells = ran.after.cells; outs = ran.after.outs }, ran.calls)

-- The function `bump`, where its body does this.
abbrev bump_by : ℕ → ℕ → List Effect → List Fun
bump_by now me body = (λ arrays vs. called (begun_with vs (32 ∷ 32 ∷ [])) (block body) (record { now = now; me = me; arrays = arrays; funs = [] })) ∷ []

-- What an event of argument i gives, where the body of `bump` and that of its handler do this.
abbrev gives_by : ℕ → List Effect → List Effect → Stepped × List ℕ
gives_by i bump body = given_by start 7 3 (bump_by 7 3 bump) (32 ∷ []) (i ∷ []) body

-- What events give whose handler does this, one after another.
abbrev steps_by : List Entry → List Effect → List Effect → Steps
steps_by entries bump body = fold
    (λ so_far e. let next = (given_by so_far.cells e.now e.me (bump_by e.now e.me bump) (32 ∷ []) e.event.args body).0 in record { cells = next.cells; outs = so_far.outs ++ next.outs ∷ [] })
    (record { cells = zero_cells worked.arrays; outs = [] }) entries

-- Both bodies computed.
both_do : {A : Type 0} (f : List Effect → List Effect → A) → f (map effect_of bumps) (map effect_of (say_bump 0 ∷ say_bump 1 ∷ [])) ≡ f bump_acts says
both_do f = ap (λ bump. f bump (map effect_of (say_bump 0 ∷ say_bump 1 ∷ []))) bump_does ∙ ap (f bump_acts) says_do

pub step_examples : StepExamples
unfolding look say_unless_small say_hash
step_examples = record {
  index_comes_round = simp runs refl;
  both_memops_see_the_old_value = simp runs refl;
  function_is_given_two_arrays = both_do (gives_by 1) ∙ refl;
  returns = simp runs refl;
  goes_on = simp runs refl;
  delay_before_target = ap (λ act. gives_by 0 (map effect_of bumps) (act ∷ [])) (counting_does true) ∙ refl;
  target_before_delay = ap (λ act. gives_by 0 (map effect_of bumps) (act ∷ [])) (counting_does false) ∙ refl;
  one_delay_for_a_group = ap (λ act. gives_by 3 (map effect_of bumps) (act ∷ [])) group_does ∙ refl;
  no_handler = refl;
  hashes = simp runs refl;
  body_put_in = ap (λ (act : Effect). given_by start 7 3 [] (32 ∷ 32 ∷ 32 ∷ []) (1 ∷ 9 ∷ []) (act ∷ act ∷ [])) put_in_does ∙ refl;
  index_is_called_first = ap (λ (act : Effect). given_by start 7 3 [] (32 ∷ 32 ∷ 32 ∷ []) (1 ∷ 9 ∷ []) (act ∷ [])) indexed_does ∙ refl;
  one_after_another = both_do (steps_by two_events) ∙ refl;
  cells_after_the_first = both_do (λ bump body. (steps_by (take 1 two_events) bump body).cells) ∙ refl;
  outs_of_the_second = both_do (λ bump body. slice_index_or (steps_by two_events bump body).outs 1 []) ∙ refl;
}
