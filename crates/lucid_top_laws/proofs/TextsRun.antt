-- The steps of the worked events, and the network tick by tick: its log and its sights.
use Rattle.std.proofs.Common.{◌≡◌, ◌∙◌, ◌++◌, ℕ, List, [], ◌∷◌, Bool, true, false, Some, if◌then◌else◌, ap, codes, is_some, refl}
use Rattle.std.specs.Fmt.{digits}
use Rattle.std.specs.Prelude.{slice_index_or}
use Rattle.lucid_base.specs.Cells.{row_of}
use Rattle.lucid_base.specs.declared.event.Event.{Event}
use Rattle.lucid_base.specs.declared.event.Out.{Out}
use Rattle.lucid_base.specs.declared.event.Out.TheVariants.{Gen}
use Rattle.lucid_base.specs.declared.event.Target.TheVariants.{At}
use Rattle.lucid_core.specs.Step.{Stepped, step}
use Rattle.lucid_log.specs.Cells.{lines_from}
use Rattle.lucid_merge.specs.Product.{product}
use Rattle.lucid_net.specs.Sights.{sights_to}
use Rattle.lucid_net_laws.specs.Runs.{entering, run_of}
use Rattle.lucid_net_spec.specs.Log.{State, end_text, log, start, ticks, turn, turns, whole}
use Rattle.lucid_net_spec.specs.Ways.{Network}
use Rattle.lucid_pipe.specs.declared.sight.Sight.{Sight}
use Rattle.lucid_types_spec.proofs.Rolled as rolled
use Rattle.lucid_top_laws.proofs.FlightExamples.{runs}
use Rattle.lucid_top_laws.proofs.TextsExamples.{code, is_placed, limits, placed_there, scene}
use Rattle.lucid_top_laws.proofs.TextsProgram.{core}
use Rattle.lucid_top_laws.specs.TextsWorked.{after_ticks, event}

-- ---- the steps

abbrev pub last : Event
last = record { id = 1; args = [] }

abbrev pub sends : List Out
sends = Gen last 0 (At 1) ∷ []

abbrev leaves : ℕ → List Out → Stepped
leaves cell outs = record { cells = (cell ∷ []) ∷ []; outs = outs }

-- Each event finds what those before it left in the cell. Event `f` has no handler.
pub first_step : step core ((0 ∷ []) ∷ []) 0 0 (event 5) ≡ leaves 5 sends
first_step = simp runs refl

pub second_step : step core ((5 ∷ []) ∷ []) 1 0 (event 5) ≡ leaves 10 sends
second_step = simp runs refl

third_step : step core ((10 ∷ []) ∷ []) 2 0 (event 7) ≡ leaves 17 []
third_step = simp runs refl

-- ---- the network, tick by tick

abbrev pub net : Network
net = whole core scene limits

-- The network whose events all do this.
abbrev with_step : Stepped → Network
with_step done = record net { does = λ cells tick switch e. done }

abbrev cell_of : ℕ → ℕ → List (List (List ℕ))
cell_of a b = ((a ∷ []) ∷ []) ∷ ((b ∷ []) ∷ []) ∷ []

-- The event of tick 0 is lost, and that of tick 1 arrives at tick 4.
abbrev after_0 : State
after_0 = start net

abbrev after_1 : State
after_1 = record {
  cells = cell_of 5 0;
  pending = record { key = record { ready = 1; made = false; tick = 0; parent = 0; index = 1 }; switch = 0; event = event 5 }
      ∷ record { key = record { ready = 2; made = false; tick = 0; parent = 0; index = 2 }; switch = 0; event = event 7 }
      ∷ [];
  text = codes "[0] s0 e(5)\n  generate f() delay 0 to 1 lost\n";
  entered = 1;
  lost = 1;
}

abbrev after_2 : State
after_2 = record {
  cells = cell_of 10 0;
  pending = record { key = record { ready = 2; made = false; tick = 0; parent = 0; index = 2 }; switch = 0; event = event 7 }
      ∷ record { key = record { ready = 4; made = true; tick = 1; parent = 0; index = 0 }; switch = 1; event = last }
      ∷ [];
  text = after_1.text ++ codes "[1] s0 e(5)\n  generate f() delay 0 to 1\n";
  entered = 2;
  lost = 1;
}

abbrev after_3 : State
after_3 = record {
  cells = cell_of 17 0;
  pending = record { key = record { ready = 4; made = true; tick = 1; parent = 0; index = 0 }; switch = 1; event = last } ∷ [];
  text = after_2.text ++ codes "[2] s0 e(7)\n";
  entered = 3;
  lost = 1;
}

abbrev after_5 : State
after_5 = record { cells = cell_of 17 0; pending = []; text = after_3.text ++ codes "[4] s1 f()\n"; entered = 4; lost = 1 }

enters_0 : turn (with_step (leaves 5 sends)) 0 0 after_0 ≡ after_1
unfolding digits
enters_0 = refl

enters_1 : turn (with_step (leaves 10 sends)) 1 0 after_1 ≡ after_2
unfolding digits
enters_1 = refl

enters_2 : turn (with_step (leaves 17 [])) 2 0 after_2 ≡ after_3
unfolding digits
enters_2 = refl

enters_4 : turn net 4 1 after_3 ≡ after_5
unfolding digits
enters_4 = refl

turn_0 : turn net 0 0 after_0 ≡ after_1
turn_0 = ap (λ (d : Stepped). turn (with_step d) 0 0 after_0) first_step ∙ enters_0

turn_1 : turn net 1 0 after_1 ≡ after_2
turn_1 = ap (λ (d : Stepped). turn (with_step d) 1 0 after_1) second_step ∙ enters_1

turn_2 : turn net 2 0 after_2 ≡ after_3
turn_2 = ap (λ (d : Stepped). turn (with_step d) 2 0 after_2) third_step ∙ enters_2

-- No event is ready at switch 1 before tick 4, and none at switch 0 from tick 3 on.
tick_0 : ticks net 0 ≡ after_0
tick_0 = refl

tick_1 : ticks net 1 ≡ after_1
tick_1 = ap (turn net 0 1) turn_0

tick_2 : ticks net 2 ≡ after_2
tick_2 = ap (turns net 1 2) tick_1 ∙ ap (turn net 1 1) turn_1

tick_3 : ticks net 3 ≡ after_3
tick_3 = ap (turns net 2 2) tick_2 ∙ ap (turn net 2 1) turn_2

tick_4 : ticks net 4 ≡ after_3
tick_4 = ap (turns net 3 2) tick_3

tick_5 : ticks net 5 ≡ after_5
tick_5 = ap (turns net 4 2) tick_4 ∙ enters_4

abbrev pub logged : List ℕ
logged = codes "[0] s0 e(5)\n  generate f() delay 0 to 1 lost\n[1] s0 e(5)\n  generate f() delay 0 to 1\n[2] s0 e(7)\n[4] s1 f()\ns0 x[0] = 17\nentered 4 lost 1 pending 0\n"

pub log_is : log net ≡ logged
unfolding digits lines_from
log_is = ap (λ (s : State). s.text ++ end_text net s) tick_5 ∙ refl

-- ---- the sights

-- Whether an event enters a switch at a tick.
abbrev enters_at : ℕ → ℕ → Bool
enters_at switch tick = is_some (entering net switch tick)

-- Whether one enters in this state, before the turn of the switch.
abbrev enters_in : State → ℕ → ℕ → Bool
enters_in s switch tick = is_some (run_of net tick switch s)

enters_0_0 : enters_at 0 0 ≡ true
enters_0_0 = refl

enters_0_1 : enters_at 0 1 ≡ true
enters_0_1 = ap (λ (s : State). enters_in s 0 1) tick_1

enters_0_2 : enters_at 0 2 ≡ true
enters_0_2 = ap (λ (s : State). enters_in s 0 2) tick_2

enters_0_3 : enters_at 0 3 ≡ false
enters_0_3 = ap (λ (s : State). enters_in s 0 3) tick_3

enters_0_4 : enters_at 0 4 ≡ false
enters_0_4 = ap (λ (s : State). enters_in s 0 4) tick_4

enters_1_0 : enters_at 1 0 ≡ false
enters_1_0 = ap (λ (s : State). enters_in s 1 0) turn_0

enters_1_1 : enters_at 1 1 ≡ false
enters_1_1 = ap (λ (s : State). enters_in (turn net 1 0 s) 1 1) tick_1 ∙ ap (λ (s : State). enters_in s 1 1) turn_1

enters_1_2 : enters_at 1 2 ≡ false
enters_1_2 = ap (λ (s : State). enters_in (turn net 2 0 s) 1 2) tick_2 ∙ ap (λ (s : State). enters_in s 1 2) turn_2

enters_1_3 : enters_at 1 3 ≡ false
enters_1_3 = ap (λ (s : State). enters_in (turn net 3 0 s) 1 3) tick_3

enters_1_4 : enters_at 1 4 ≡ true
enters_1_4 = ap (λ (s : State). enters_in (turn net 4 0 s) 1 4) tick_4

-- The row of the array at a switch.
abbrev row_at : State → ℕ → List ℕ
row_at s switch = row_of (slice_index_or s.cells switch []) 0

-- A sight, by the two slots, taken or not, and by the row.
abbrev shows : ℕ → Bool → Bool → List ℕ → Sight
shows switch zero one row = record {
  switch = switch;
  places = ([] ++ (if one then 1 ∷ [] else [])) ++ (if zero then 0 ∷ [] else []);
  cells = row ∷ [];
}

seen : (switch : ℕ) {zero zero' one one' : Bool} {s s' : State} → zero ≡ zero' → one ≡ one' → s ≡ s' →
    shows switch zero one (row_at s switch) ≡ shows switch zero' one' (row_at s' switch)
seen switch {zero} {zero' = zero'} {one} {one' = one'} {s} {s' = s'} first second third =
    ap (λ (b : Bool). shows switch b one (row_at s switch)) first
    ∙ ap (λ (b : Bool). shows switch zero' b (row_at s switch)) second
    ∙ ap (λ (r : State). shows switch zero' one' (row_at r switch)) third

pub sights_are : sights_to net (Some (is_placed code)) 5 ≡ after_ticks 0 5 10 17 17
unfolding product
sights_are =
    rolled.parts (seen 0 {one = false} enters_0_0 refl tick_0)
    (rolled.parts (seen 1 {one = false} enters_1_0 refl tick_0)
    (rolled.parts (seen 0 enters_0_1 enters_0_0 tick_1)
    (rolled.parts (seen 1 enters_1_1 enters_1_0 tick_1)
    (rolled.parts (seen 0 enters_0_2 enters_0_1 tick_2)
    (rolled.parts (seen 1 enters_1_2 enters_1_1 tick_2)
    (rolled.parts (seen 0 enters_0_3 enters_0_2 tick_3)
    (rolled.parts (seen 1 enters_1_3 enters_1_2 tick_3)
    (rolled.parts (seen 0 enters_0_4 enters_0_3 tick_4)
    (rolled.parts (seen 1 enters_1_4 enters_1_3 tick_4) refl)))))))))

-- The array in the second stage is one tick behind.
pub sights_there_are : sights_to net (Some (placed_there code)) 5 ≡ after_ticks 0 0 5 10 17
unfolding product
sights_there_are =
    rolled.parts (seen 0 {one = false} enters_0_0 refl tick_0)
    (rolled.parts (seen 1 {one = false} enters_1_0 refl tick_0)
    (rolled.parts (seen 0 enters_0_1 enters_0_0 tick_0)
    (rolled.parts (seen 1 enters_1_1 enters_1_0 tick_0)
    (rolled.parts (seen 0 enters_0_2 enters_0_1 tick_1)
    (rolled.parts (seen 1 enters_1_2 enters_1_1 tick_1)
    (rolled.parts (seen 0 enters_0_3 enters_0_2 tick_2)
    (rolled.parts (seen 1 enters_1_3 enters_1_2 tick_2)
    (rolled.parts (seen 0 enters_0_4 enters_0_3 tick_3)
    (rolled.parts (seen 1 enters_1_4 enters_1_3 tick_3) refl)))))))))
