-- The run of that program in that scenario, event after event, and its log.
use Rattle.std.proofs.Common.{◌≡◌, ◌∙◌, ◌+◌, ◌<◌, ◌≤◌, ◌⊎◌, inl, inr, ℕ, zero, suc, List, [], ◌∷◌, ◌++◌, Bool, true, false, not, ◌&&◌, if◌then◌else◌, None, Some, ap, arith, codes, map, nat_eq, nat_lt, refl, subst}
use Rattle.std.proofs.lemmas.Bool.{cases_lt, eq-eqb, le-ltb, lt-ltb, ne_eqb}
use Rattle.std.specs.Fmt.{digits}
use Rattle.std.specs.Prelude.{slice_index_or, slice_set}
use Rattle.lucid_base.specs.Bits.{bits_of}
use Rattle.lucid_base.specs.Cells.{with_cell, zero_cells}
use Rattle.lucid_base.specs.declared.array.ArrayName.TheVariants.{Global}
use Rattle.lucid_base.specs.declared.bits.Bits.{Bits}
use Rattle.lucid_base.specs.declared.event.Event.{Event}
use Rattle.lucid_base.specs.declared.event.Out.TheVariants.{Gen}
use Rattle.lucid_base.specs.declared.event.Target.TheVariants.{At, Here}
use Rattle.lucid_base.specs.declared.memory_alu.MemArg.TheVariants.{Stored}
use Rattle.lucid_base.specs.declared.ops.BinOp.TheVariants as bin
use Rattle.lucid_base.specs.declared.ops.CmpOp.TheVariants.{Gt}
use Rattle.lucid_core.specs.Computations.{Computation, Effect, begun_with}
use Rattle.lucid_core.specs.Computations as computed
use Rattle.lucid_core.specs.declared.body.Expr.TheOpen.{Expr-F, Stmt-F, Touch-F}
use Rattle.lucid_core.specs.ExamplePrograms.{plus}
use Rattle.lucid_core.specs.Meaning.{effect_of, expr_step, stmt_step, touch_step}
use Rattle.lucid_core.specs.Step.{Stepped, started, step, taken_at}
use Rattle.lucid_core.proofs.Folds.{folds}
use Rattle.lucid_log.specs.Cells.{lines_from}
use Rattle.lucid_log.specs.Pieces.{hex_text}
use Rattle.lucid_log_tally.specs.Bench.{bench_line}
use Rattle.lucid_net_spec.specs.Log.{State, block, end_text, enters, log, losses, made, put_all, ticks, turn, turns, whole}
use Rattle.lucid_net_spec.specs.Ways.{Network, Run}
use Rattle.lucid_types_spec.specs.Typed.{returning}
use Rattle.lucid_types_spec.proofs.Rolled as rolled
use Rattle.lucid_top_laws.proofs.GeneratedCore.{across_core, core_parts, got_core, here_core, put_core, steps_4, steps_5, steps_6, steps_7, updated_core}
use Rattle.lucid_top_laws.proofs.GeneratedSettings.{limits, scene}

-- ---- a network in which one event waits

-- The type of the events that wait. A list of them gives it, since this crate does not use lucid_queue.
abbrev item_of : {A : Type 0} → List A → Type 0
item_of {A} xs = A

abbrev Waiting : Type 0
Waiting = item_of (put_all [] [])

-- The state in which one event waits, and no event was lost.
abbrev state : List (List (List ℕ)) → Waiting → List ℕ → ℕ → State
state cells p text n = record { cells = cells; pending = p ∷ []; text = text; entered = n; lost = 0 }

-- The state of the network before this tick. As a record it is not unfolded into the ticks before.
record Reached (net : Network) (t : ℕ) (s : State) : Type 0 where
  is : ticks net t ≡ s

-- An event is ready at its switch from its tick on.
abbrev ready_at : ℕ → ℕ → Waiting → Bool
ready_at k t p = nat_eq p.switch k && not (nat_lt t p.key.ready)

and_false : (b : Bool) → (b && false) ≡ false
and_false true = refl
and_false false = refl

early : (k t : ℕ) (p : Waiting) → t < p.key.ready → ready_at k t p ≡ false
early k t p less = ap (λ (b : Bool). nat_eq p.switch k && not b) (lt-ltb t p.key.ready less) ∙ and_false (nat_eq p.switch k)

elsewhere : (k t : ℕ) (p : Waiting) → k < p.switch → ready_at k t p ≡ false
elsewhere k t p less = ap (λ (b : Bool). b && not (nat_lt t p.key.ready)) (ne_eqb p.switch k (λ same. omega (arith, less, same)))

due : (t : ℕ) (p : Waiting) → p.key.ready ≤ t → ready_at p.switch t p ≡ true
due t p past =
    ap (λ (b : Bool). b && not (nat_lt t p.key.ready)) (eq-eqb p.switch p.switch refl)
    ∙ ap not (le-ltb t p.key.ready past)

module _ (net : Network) where
  -- A switch at which no event is ready keeps the state, and so do switches.
  skips : (k t : ℕ) (cells : List (List (List ℕ))) (p : Waiting) (text : List ℕ) (n : ℕ) → ready_at k t p ≡ false → turn net t k (state cells p text n) ≡ state cells p text n
  skips k t cells p text n not_ready = ap (λ (b : Bool). enters net t k (state cells p text n) (if b then Some p else None)) not_ready

  all_skip : (t m : ℕ) (cells : List (List (List ℕ))) (p : Waiting) (text : List ℕ) (n : ℕ) → ((k : ℕ) → k < m → ready_at k t p ≡ false) →
      turns net t m (state cells p text n) ≡ state cells p text n
  all_skip t zero cells p text n none = refl
  all_skip t (suc m) cells p text n none =
      ap (turn net t m) (all_skip t m cells p text n (λ k less. none k (omega (arith, less)))) ∙ skips m t cells p text n (none m (omega arith))

  -- The state stays until the event is ready.
  stays : (t u : ℕ) (cells : List (List (List ℕ))) (p : Waiting) (text : List ℕ) (n : ℕ) → ticks net t ≡ state cells p text n → t ≤ u → u ≤ p.key.ready →
      ticks net u ≡ state cells p text n
  stays t zero cells p text n is up low = let same : t ≡ zero = omega (arith, up) in subst (λ (v : ℕ). ticks net v ≡ state cells p text n) same is
  stays t (suc u) cells p text n is up low = by (cases_lt u t) (λ more. stays t u cells p text n is more (omega (arith, low)))
    where
      by : (u < t) ⊎ (t ≤ u) → (t ≤ u → ticks net u ≡ state cells p text n) → ticks net (suc u) ≡ state cells p text n
      by (inl less) before = let same : t ≡ suc u = omega (arith, up, less) in subst (λ (v : ℕ). ticks net v ≡ state cells p text n) same is
      by (inr more) before =
          ap (turns net u net.scene.switches) (before more)
          ∙ all_skip u net.scene.switches cells p text n (λ k less. early k u p (omega (arith, low)))

  quiet : (t u : ℕ) (cells : List (List (List ℕ))) (p : Waiting) (text : List ℕ) (n : ℕ) → Reached net t (state cells p text n) → t ≤ u → u ≤ p.key.ready →
      Reached net u (state cells p text n)
  quiet t u cells p text n at up low = record { is = stays t u cells p text n at.is up low }

  -- The state once the event has entered at this tick, and has done this.
  abbrev run_of : ℕ → Waiting → Stepped → Run
  run_of tick p done = record { tick = tick; switch = p.switch; event = p.event; outs = done.outs }

  abbrev entered_if : Bool → ℕ → List (List (List ℕ)) → Waiting → List ℕ → ℕ → Stepped → State
  entered_if is_ready tick cells p text n done = record {
    cells = slice_set cells p.switch done.cells;
    pending = put_all (made net (run_of tick p done)) (if is_ready then [] else p ∷ []);
    text = text ++ block net (run_of tick p done);
    entered = n + 1;
    lost = 0 + losses net (run_of tick p done);
  }

  abbrev entered : ℕ → List (List (List ℕ)) → Waiting → List ℕ → ℕ → Stepped → State
  entered = entered_if true

  -- It enters in the turn of its switch, and the event that then waits enters later.
  module _ (t : ℕ) (cells : List (List (List ℕ))) (p : Waiting) (text : List ℕ) (n : ℕ) (others : List (List (List ℕ))) (q : Waiting) (more_text : List ℕ) (n' : ℕ) (d : Stepped)
      (past : p.key.ready ≤ t) (does : net.does (slice_index_or cells p.switch []) t p.switch p.event ≡ d) (is : entered t cells p text n d ≡ state others q more_text n')
      (late : t < q.key.ready) where
    own_turn : turn net t p.switch (state cells p text n) ≡ state others q more_text n'
    own_turn =
        ap (λ (b : Bool). enters net t p.switch (state cells p text n) (if b then Some p else None)) (due t p past)
        ∙ ap (λ (b : Bool). entered_if b t cells p text n (net.does (slice_index_or cells p.switch []) t p.switch p.event)) (due t p past)
        ∙ ap (entered t cells p text n) does ∙ is

    one_enters : (m : ℕ) → p.switch < m → turns net t m (state cells p text n) ≡ state others q more_text n'
    one_enters zero below = absurd (omega (arith, below))
    one_enters (suc m) below = by (cases_lt p.switch m) (λ less. one_enters m less)
      where
        by : (p.switch < m) ⊎ (m ≤ p.switch) → (p.switch < m → turns net t m (state cells p text n) ≡ state others q more_text n') →
            turns net t (suc m) (state cells p text n) ≡ state others q more_text n'
        by (inl less) before = ap (turn net t m) (before less) ∙ skips m t others q more_text n' (early m t q late)
        by (inr more) before =
            let same : p.switch ≡ m = omega (arith, below, more) in
            ap (turn net t m) (all_skip t m cells p text n (λ k less. elsewhere k t p (omega (arith, less, more))))
            ∙ subst (λ (k : ℕ). turn net t k (state cells p text n) ≡ state others q more_text n') same own_turn

  next : (t u v : ℕ) (cells : List (List (List ℕ))) (p : Waiting) (text : List ℕ) (n : ℕ) (others : List (List (List ℕ))) (q : Waiting) (more_text : List ℕ) (n' : ℕ) (d : Stepped) →
      Reached net t (state cells p text n) → t ≤ u → p.key.ready ≡ u → p.switch < net.scene.switches → net.does (slice_index_or cells p.switch []) u p.switch p.event ≡ d →
      entered u cells p text n d ≡ state others q more_text n' → u < q.key.ready → suc u ≡ v → Reached net v (state others q more_text n')
  next t u v cells p text n others q more_text n' d at up due below does is late next_is =
      let low : u ≤ p.key.ready = omega (arith, due) in
      let past : p.key.ready ≤ u = omega (arith, due) in
      subst (λ (w : ℕ). Reached net w (state others q more_text n')) next_is (record {
        is = ap (turns net u net.scene.switches) (stays t u cells p text n at.is up low)
            ∙ one_enters u cells p text n others q more_text n' d past does is late net.scene.switches below;
      })

  log_at : (s : State) → Reached net net.scene.stop s → log net ≡ s.text ++ end_text net s
  log_at s at = ap (λ (last : State). last.text ++ end_text net last) at.is

-- ---- statements, by the steps of their parts

abbrev number_value : ℕ → Computation Bits
number_value n = expr_step (Expr-F.Fixed (bits_of 32 n))

abbrev local_value : ℕ → Computation Bits
local_value j = expr_step (Expr-F.Local j)

abbrev answered : Touch-F (Computation Bits) Effect (Computation Bits) → Effect
answered t = stmt_step (Stmt-F.Assign 1 (expr_step (Expr-F.Array (touch_step t))))

abbrev got_effect : ℕ → Effect
got_effect q = answered (record { array = Global q; index = local_value 0; get = plus; get_arg = local_value 1; set = returning 32 Stored; set_arg = number_value 0; answers = true })

abbrev put_effect : ℕ → Effect
put_effect q = stmt_step (Stmt-F.Drop (expr_step (Expr-F.Array (touch_step (record { array = Global q; index = local_value 0; get = returning 32 Stored; get_arg = number_value 0; set = plus; set_arg = local_value 1; answers = false })))))

abbrev updated_effect : ℕ → ℕ → Effect
updated_effect q above = stmt_step (Stmt-F.If (expr_step (Expr-F.Cmp Gt (local_value 1) (number_value above)))
    (answered (record { array = Global q; index = local_value 0; get = plus; get_arg = number_value 1; set = plus; set_arg = local_value 1; answers = true }) ∷ []) [])

abbrev arguments : List (Computation Bits)
arguments = expr_step (Expr-F.Bin bin.Add (local_value 0) (number_value 1)) ∷ local_value 1 ∷ []

abbrev here_effect : ℕ → ℕ → Effect
here_effect j delay = stmt_step (Stmt-F.Gen j arguments (Some (number_value delay)) None false)

abbrev across_effect : ℕ → ℕ → Effect
across_effect j delay = stmt_step (Stmt-F.Gen j arguments (Some (number_value delay)) (Some (expr_step (Expr-F.Bin bin.Xor (expr_step Expr-F.Me) (number_value 1)))) true)

got_runs : (q : ℕ) → effect_of (got_core q) ≡ got_effect q
got_runs q = simp folds refl

put_runs : (q : ℕ) → effect_of (put_core q) ≡ put_effect q
put_runs q = simp folds refl

updated_runs : (q above : ℕ) → effect_of (updated_core q above) ≡ updated_effect q above
updated_runs q above = simp folds refl

here_runs : (j delay : ℕ) → effect_of (here_core j delay) ≡ here_effect j delay
here_runs j delay = simp folds refl

across_runs : (j delay : ℕ) → effect_of (across_core j delay) ≡ across_effect j delay
across_runs j delay = simp folds refl

-- ---- handlers

-- The step of an event whose handler has these statements.
abbrev run_by : List Effect → List (List ℕ) → ℕ → ℕ → List ℕ → Stepped
run_by fs cells now me args =
    let after = (computed.block fs (record { now = now; me = me; arrays = []; funs = [] }) (started cells (begun_with (taken_at (32 ∷ 32 ∷ []) args) (32 ∷ 32 ∷ [])))).after in
    record { cells = after.cells; outs = after.outs }

abbrev event : ℕ → ℕ → ℕ → Event
event id i v = record { id = id; args = i ∷ v ∷ [] }

abbrev pub net : Network
net = whole core_parts scene limits

abbrev effects_4 : List Effect
effects_4 = got_effect 0 ∷ across_effect 5 91 ∷ []

runs_4 : map effect_of steps_4 ≡ effects_4
runs_4 = rolled.parts (got_runs 0) (rolled.parts (across_runs 5 91) refl)

abbrev effects_5 : List Effect
effects_5 = got_effect 0 ∷ updated_effect 1 309 ∷ updated_effect 3 652 ∷ updated_effect 4 726 ∷ got_effect 6 ∷ here_effect 7 64 ∷ []

runs_5 : map effect_of steps_5 ≡ effects_5
runs_5 = rolled.parts (got_runs 0) (rolled.parts (updated_runs 1 309) (rolled.parts (updated_runs 3 652) (rolled.parts (updated_runs 4 726) (rolled.parts (got_runs 6) (rolled.parts (here_runs 7 64) refl)))))

abbrev effects_6 : List Effect
effects_6 = updated_effect 0 812 ∷ put_effect 3 ∷ got_effect 5 ∷ got_effect 6 ∷ across_effect 4 49 ∷ []

runs_6 : map effect_of steps_6 ≡ effects_6
runs_6 = rolled.parts (updated_runs 0 812) (rolled.parts (put_runs 3) (rolled.parts (got_runs 5) (rolled.parts (got_runs 6) (rolled.parts (across_runs 4 49) refl))))

abbrev effects_7 : List Effect
effects_7 = got_effect 1 ∷ updated_effect 2 519 ∷ updated_effect 3 731 ∷ updated_effect 4 318 ∷ got_effect 5 ∷ put_effect 6 ∷ across_effect 6 96 ∷ []

runs_7 : map effect_of steps_7 ≡ effects_7
runs_7 = rolled.parts (got_runs 1) (rolled.parts (updated_runs 2 519) (rolled.parts (updated_runs 3 731) (rolled.parts (updated_runs 4 318) (rolled.parts (got_runs 5) (rolled.parts (put_runs 6) (rolled.parts (across_runs 6 96) refl))))))

-- ---- the cells of a switch

abbrev blank : List (List ℕ)
blank = zero_cells core_parts.arrays

abbrev cells_1 : List (List ℕ)
cells_1 = with_cell (with_cell blank 0 17 859) 3 7 1

abbrev cells_4 : List (List ℕ)
cells_4 = with_cell cells_1 6 11 1

abbrev cells_5 : List (List ℕ)
cells_5 = with_cell blank 3 11 1

abbrev cells_8 : List (List ℕ)
cells_8 = with_cell cells_5 6 15 1

abbrev cells_9 : List (List ℕ)
cells_9 = with_cell cells_4 3 15 1

-- ---- the events, the first of which is of the file

abbrev waits_0 : Waiting
waits_0 = record { key = record { ready = 73; made = false; tick = 0; parent = 0; index = 0 }; switch = 3; event = event 6 875 859 }

abbrev waits_1 : Waiting
waits_1 = record { key = record { ready = 156; made = true; tick = 73; parent = 3; index = 0 }; switch = 2; event = event 4 876 1 }

abbrev waits_2 : Waiting
waits_2 = record { key = record { ready = 281; made = true; tick = 156; parent = 2; index = 0 }; switch = 3; event = event 5 877 1 }

abbrev waits_3 : Waiting
waits_3 = record { key = record { ready = 377; made = true; tick = 281; parent = 3; index = 0 }; switch = 3; event = event 7 878 1 }

abbrev waits_4 : Waiting
waits_4 = record { key = record { ready = 507; made = true; tick = 377; parent = 3; index = 0 }; switch = 2; event = event 6 879 1 }

abbrev waits_5 : Waiting
waits_5 = record { key = record { ready = 590; made = true; tick = 507; parent = 2; index = 0 }; switch = 3; event = event 4 880 1 }

abbrev waits_6 : Waiting
waits_6 = record { key = record { ready = 715; made = true; tick = 590; parent = 3; index = 0 }; switch = 2; event = event 5 881 1 }

abbrev waits_7 : Waiting
waits_7 = record { key = record { ready = 811; made = true; tick = 715; parent = 2; index = 0 }; switch = 2; event = event 7 882 1 }

abbrev waits_8 : Waiting
waits_8 = record { key = record { ready = 941; made = true; tick = 811; parent = 2; index = 0 }; switch = 3; event = event 6 883 1 }

abbrev waits_9 : Waiting
waits_9 = record { key = record { ready = 1024; made = true; tick = 941; parent = 3; index = 0 }; switch = 2; event = event 4 884 1 }

-- ---- what each event does

abbrev step_0 : Stepped
step_0 = record { cells = cells_1; outs = Gen (event 4 876 1) 49 (At 2) ∷ [] }

stepped_0 : step core_parts blank 73 3 (event 6 875 859) ≡ step_0
stepped_0 = ap (λ (fs : List Effect). run_by fs blank 73 3 (875 ∷ 859 ∷ [])) runs_6

abbrev step_1 : Stepped
step_1 = record { cells = blank; outs = Gen (event 5 877 1) 91 (At 3) ∷ [] }

stepped_1 : step core_parts blank 156 2 (event 4 876 1) ≡ step_1
stepped_1 = ap (λ (fs : List Effect). run_by fs blank 156 2 (876 ∷ 1 ∷ [])) runs_4

abbrev step_2 : Stepped
step_2 = record { cells = cells_1; outs = Gen (event 7 878 1) 64 Here ∷ [] }

stepped_2 : step core_parts cells_1 281 3 (event 5 877 1) ≡ step_2
stepped_2 = ap (λ (fs : List Effect). run_by fs cells_1 281 3 (877 ∷ 1 ∷ [])) runs_5

abbrev step_3 : Stepped
step_3 = record { cells = cells_4; outs = Gen (event 6 879 1) 96 (At 2) ∷ [] }

stepped_3 : step core_parts cells_1 377 3 (event 7 878 1) ≡ step_3
stepped_3 = ap (λ (fs : List Effect). run_by fs cells_1 377 3 (878 ∷ 1 ∷ [])) runs_7

abbrev step_4 : Stepped
step_4 = record { cells = cells_5; outs = Gen (event 4 880 1) 49 (At 3) ∷ [] }

stepped_4 : step core_parts blank 507 2 (event 6 879 1) ≡ step_4
stepped_4 = ap (λ (fs : List Effect). run_by fs blank 507 2 (879 ∷ 1 ∷ [])) runs_6

abbrev step_5 : Stepped
step_5 = record { cells = cells_4; outs = Gen (event 5 881 1) 91 (At 2) ∷ [] }

stepped_5 : step core_parts cells_4 590 3 (event 4 880 1) ≡ step_5
stepped_5 = ap (λ (fs : List Effect). run_by fs cells_4 590 3 (880 ∷ 1 ∷ [])) runs_4

abbrev step_6 : Stepped
step_6 = record { cells = cells_5; outs = Gen (event 7 882 1) 64 Here ∷ [] }

stepped_6 : step core_parts cells_5 715 2 (event 5 881 1) ≡ step_6
stepped_6 = ap (λ (fs : List Effect). run_by fs cells_5 715 2 (881 ∷ 1 ∷ [])) runs_5

abbrev step_7 : Stepped
step_7 = record { cells = cells_8; outs = Gen (event 6 883 1) 96 (At 3) ∷ [] }

stepped_7 : step core_parts cells_5 811 2 (event 7 882 1) ≡ step_7
stepped_7 = ap (λ (fs : List Effect). run_by fs cells_5 811 2 (882 ∷ 1 ∷ [])) runs_7

abbrev step_8 : Stepped
step_8 = record { cells = cells_9; outs = Gen (event 4 884 1) 49 (At 2) ∷ [] }

stepped_8 : step core_parts cells_4 941 3 (event 6 883 1) ≡ step_8
stepped_8 = ap (λ (fs : List Effect). run_by fs cells_4 941 3 (883 ∷ 1 ∷ [])) runs_6

-- ---- the states of the network

abbrev switches_0 : List (List (List ℕ))
switches_0 = blank ∷ blank ∷ blank ∷ blank ∷ []

abbrev text_0 : List ℕ
text_0 = []

abbrev switches_1 : List (List (List ℕ))
switches_1 = blank ∷ blank ∷ blank ∷ cells_1 ∷ []

abbrev text_1 : List ℕ
text_1 = text_0 ++ codes "[73] s3 e6(875,859)\n  generate e4(876,1) delay 49 to 2\n"

abbrev switches_2 : List (List (List ℕ))
switches_2 = blank ∷ blank ∷ blank ∷ cells_1 ∷ []

abbrev text_2 : List ℕ
text_2 = text_1 ++ codes "[156] s2 e4(876,1)\n  generate e5(877,1) delay 91 to 3\n"

abbrev switches_3 : List (List (List ℕ))
switches_3 = blank ∷ blank ∷ blank ∷ cells_1 ∷ []

abbrev text_3 : List ℕ
text_3 = text_2 ++ codes "[281] s3 e5(877,1)\n  generate e7(878,1) delay 64 here\n"

abbrev switches_4 : List (List (List ℕ))
switches_4 = blank ∷ blank ∷ blank ∷ cells_4 ∷ []

abbrev text_4 : List ℕ
text_4 = text_3 ++ codes "[377] s3 e7(878,1)\n  generate e6(879,1) delay 96 to 2\n"

abbrev switches_5 : List (List (List ℕ))
switches_5 = blank ∷ blank ∷ cells_5 ∷ cells_4 ∷ []

abbrev text_5 : List ℕ
text_5 = text_4 ++ codes "[507] s2 e6(879,1)\n  generate e4(880,1) delay 49 to 3\n"

abbrev switches_6 : List (List (List ℕ))
switches_6 = blank ∷ blank ∷ cells_5 ∷ cells_4 ∷ []

abbrev text_6 : List ℕ
text_6 = text_5 ++ codes "[590] s3 e4(880,1)\n  generate e5(881,1) delay 91 to 2\n"

abbrev switches_7 : List (List (List ℕ))
switches_7 = blank ∷ blank ∷ cells_5 ∷ cells_4 ∷ []

abbrev text_7 : List ℕ
text_7 = text_6 ++ codes "[715] s2 e5(881,1)\n  generate e7(882,1) delay 64 here\n"

abbrev switches_8 : List (List (List ℕ))
switches_8 = blank ∷ blank ∷ cells_8 ∷ cells_4 ∷ []

abbrev text_8 : List ℕ
text_8 = text_7 ++ codes "[811] s2 e7(882,1)\n  generate e6(883,1) delay 96 to 3\n"

abbrev switches_9 : List (List (List ℕ))
switches_9 = blank ∷ blank ∷ cells_8 ∷ cells_9 ∷ []

abbrev text_9 : List ℕ
text_9 = text_8 ++ codes "[941] s3 e6(883,1)\n  generate e4(884,1) delay 49 to 2\n"

enters_0 : entered net 73 switches_0 waits_0 text_0 0 step_0 ≡ state switches_1 waits_1 text_1 1
unfolding digits
enters_0 = refl

enters_1 : entered net 156 switches_1 waits_1 text_1 1 step_1 ≡ state switches_2 waits_2 text_2 2
unfolding digits
enters_1 = refl

enters_2 : entered net 281 switches_2 waits_2 text_2 2 step_2 ≡ state switches_3 waits_3 text_3 3
unfolding digits
enters_2 = refl

enters_3 : entered net 377 switches_3 waits_3 text_3 3 step_3 ≡ state switches_4 waits_4 text_4 4
unfolding digits
enters_3 = refl

enters_4 : entered net 507 switches_4 waits_4 text_4 4 step_4 ≡ state switches_5 waits_5 text_5 5
unfolding digits
enters_4 = refl

enters_5 : entered net 590 switches_5 waits_5 text_5 5 step_5 ≡ state switches_6 waits_6 text_6 6
unfolding digits
enters_5 = refl

enters_6 : entered net 715 switches_6 waits_6 text_6 6 step_6 ≡ state switches_7 waits_7 text_7 7
unfolding digits
enters_6 = refl

enters_7 : entered net 811 switches_7 waits_7 text_7 7 step_7 ≡ state switches_8 waits_8 text_8 8
unfolding digits
enters_7 = refl

enters_8 : entered net 941 switches_8 waits_8 text_8 8 step_8 ≡ state switches_9 waits_9 text_9 9
unfolding digits
enters_8 = refl

reached_0 : Reached net 0 (state switches_0 waits_0 text_0 0)
reached_0 = record { is = refl }

reached_1 : Reached net 74 (state switches_1 waits_1 text_1 1)
reached_1 = next net 0 73 74 switches_0 waits_0 text_0 0 switches_1 waits_1 text_1 1 step_0 reached_0 (omega arith) refl (omega arith) stepped_0 enters_0 (omega arith) refl

reached_2 : Reached net 157 (state switches_2 waits_2 text_2 2)
reached_2 = next net 74 156 157 switches_1 waits_1 text_1 1 switches_2 waits_2 text_2 2 step_1 reached_1 (omega arith) refl (omega arith) stepped_1 enters_1 (omega arith) refl

reached_3 : Reached net 282 (state switches_3 waits_3 text_3 3)
reached_3 = next net 157 281 282 switches_2 waits_2 text_2 2 switches_3 waits_3 text_3 3 step_2 reached_2 (omega arith) refl (omega arith) stepped_2 enters_2 (omega arith) refl

reached_4 : Reached net 378 (state switches_4 waits_4 text_4 4)
reached_4 = next net 282 377 378 switches_3 waits_3 text_3 3 switches_4 waits_4 text_4 4 step_3 reached_3 (omega arith) refl (omega arith) stepped_3 enters_3 (omega arith) refl

reached_5 : Reached net 508 (state switches_5 waits_5 text_5 5)
reached_5 = next net 378 507 508 switches_4 waits_4 text_4 4 switches_5 waits_5 text_5 5 step_4 reached_4 (omega arith) refl (omega arith) stepped_4 enters_4 (omega arith) refl

reached_6 : Reached net 591 (state switches_6 waits_6 text_6 6)
reached_6 = next net 508 590 591 switches_5 waits_5 text_5 5 switches_6 waits_6 text_6 6 step_5 reached_5 (omega arith) refl (omega arith) stepped_5 enters_5 (omega arith) refl

reached_7 : Reached net 716 (state switches_7 waits_7 text_7 7)
reached_7 = next net 591 715 716 switches_6 waits_6 text_6 6 switches_7 waits_7 text_7 7 step_6 reached_6 (omega arith) refl (omega arith) stepped_6 enters_6 (omega arith) refl

reached_8 : Reached net 812 (state switches_8 waits_8 text_8 8)
reached_8 = next net 716 811 812 switches_7 waits_7 text_7 7 switches_8 waits_8 text_8 8 step_7 reached_7 (omega arith) refl (omega arith) stepped_7 enters_7 (omega arith) refl

reached_9 : Reached net 942 (state switches_9 waits_9 text_9 9)
reached_9 = next net 812 941 942 switches_8 waits_8 text_8 8 switches_9 waits_9 text_9 9 step_8 reached_8 (omega arith) refl (omega arith) stepped_8 enters_8 (omega arith) refl

reached_end : Reached net 1000 (state switches_9 waits_9 text_9 9)
reached_end = quiet net 942 1000 switches_9 waits_9 text_9 9 reached_9 (omega arith) (omega arith)

-- ---- its log, and the line that summarizes it

abbrev pub text : List ℕ
text = codes "[73] s3 e6(875,859)\n  generate e4(876,1) delay 49 to 2\n[156] s2 e4(876,1)\n  generate e5(877,1) delay 91 to 3\n[281] s3 e5(877,1)\n  generate e7(878,1) delay 64 here\n[377] s3 e7(878,1)\n  generate e6(879,1) delay 96 to 2\n[507] s2 e6(879,1)\n  generate e4(880,1) delay 49 to 3\n[590] s3 e4(880,1)\n  generate e5(881,1) delay 91 to 2\n[715] s2 e5(881,1)\n  generate e7(882,1) delay 64 here\n[811] s2 e7(882,1)\n  generate e6(883,1) delay 96 to 3\n[941] s3 e6(883,1)\n  generate e4(884,1) delay 49 to 2\ns2 a3[11] = 1\ns2 a6[15] = 1\ns3 a0[17] = 859\ns3 a3[7] = 1\ns3 a3[15] = 1\ns3 a6[11] = 1\nentered 9 lost 0 pending 1\n"

pub log_is : log net ≡ text
unfolding digits lines_from
log_is = log_at net (state switches_9 waits_9 text_9 9) reached_end ∙ refl

abbrev pub line : List ℕ
line = codes "bench seed 69426392 n 1 entered 9 lost 0 pending 1 bytes 599 fnv c51af7c75b63ebe7\n"

summary : bench_line 69426392 1 text ≡ line
unfolding digits hex_text
summary = refl

-- The line of a network that is this one.
pub line_of : (n : Network) → n ≡ net → bench_line 69426392 1 (log n) ≡ line
line_of n same = ap (λ (m : Network). bench_line 69426392 1 (log m)) same ∙ ap (bench_line 69426392 1) log_is ∙ summary
