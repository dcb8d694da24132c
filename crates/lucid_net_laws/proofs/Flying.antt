-- All pipelines of a network at once.
use Rattle.std.proofs.Common.{◌≡◌, ◌≢◌, ℕ, zero, suc, ◌+◌, ◌-◌, ◌*◌, ◌^◌, ◌<◌, ◌≤◌, ◌⊎◌, inl, inr, ⊎_elim, List, [], ◌∷◌, length, get_or, set, Option, None, Some, option_map, replicate, refl, sym, ◌∙◌, ap, subst, arith}
use Rattle.std.proofs.lemmas.Bool.{cases_eq, cases_lt}
use Rattle.std.proofs.lemmas.List.{get_or-set_same, get_or-set_other, length-set, get_or-replicate, length-replicate}
use Rattle.std.specs.List.{find}
use Rattle.lucid_base.specs.declared.event.Event.{Event}
use Rattle.lucid_net_spec.proofs.InOrder.{stays_in_order}
use Rattle.lucid_net_spec.proofs.Numbers.{by_number}
use Rattle.lucid_net_spec.specs.Laws.{IsInOrder, nth}
use Rattle.lucid_net_spec.specs.Log.{State, enters, put_all, run_at, start, ticks, turn, turns}
use Rattle.lucid_net_spec.specs.Ways.{Network, Run}
use Rattle.lucid_pipe_laws.proofs.Stream.{empties, late_done, picture-start, tick_pipe}
use Rattle.lucid_pipe_laws.specs.Moves.{advance, entered_by}
use Rattle.lucid_pipe_laws.specs.Rows.{Row, empty_pipe}
use Rattle.lucid_pipe_laws.specs.Stream.{cells_at, ends, late, picture}
use Rattle.lucid_queue.specs.Waiting.{is_ready, without_first}
use Rattle.lucid_queue.specs.declared.pending.Pending.{Pending}
use Rattle.lucid_net_laws.specs.Behind.{IsBehind, IsBehindBy, TurnBehind}
use Rattle.lucid_net_laws.specs.Flying.{Flying, IsFlying, IsSound, flying_turn, one_if, packet_for}
use Rattle.lucid_net_laws.specs.Runs.{entering, leaving, losses_by, made_by, run_of, runs}
use Rattle.lucid_net_laws.specs.Stages.{Stages, fed, packet_of}
use Rattle.lucid_net_laws.specs.Whole.{clock}
use Rattle.lucid_net_laws.proofs.Behind.{nth-next, stays_behind}
use Rattle.lucid_net_laws.proofs.Whole.{clock_done, clock_end, clock_other, clock_self, clock_start, ends_run, entering_early, whole_at}

-- `late` of equal streams is equal
late_same : (f g : ℕ → Option Run) (t k : ℕ) → ((e : ℕ) → e ≤ t → f e ≡ g e) → late f t k ≡ late g t k
late_same f g t zero same = same t (omega arith)
late_same f g zero (suc k) same = refl
late_same f g (suc t) (suc k) same = late_same f g t k (λ e le. same e (omega (arith, le)))

pub leaving_early : (net : Network) (switch tick : ℕ) → tick < net.scene.stop → leaving net net.limits.stages switch tick ≡ late (runs net switch) tick net.limits.stages
leaving_early net switch tick lt = late_same (entering net switch) (runs net switch) tick net.limits.stages (λ e le. entering_early net switch e (omega (arith, lt, le)))

enters_entered : (net : Network) (t s : ℕ) (w : State) (o : Option Pending) → (enters net t s w o).entered ≡ w.entered + one_if o
enters_entered net t s w None = omega arith
enters_entered net t s w (Some p) = refl

module _ {C P : Type 0} where
  -- the packet that leaves a pipeline
  pub leaves_run : (net : Network) (st : Stages C P) (Good : List C → Type 0) (Fits : Event → Type 0) (t s : ℕ) (rows : List (Row C P)) → IsSound net st Good Fits → s < net.scene.switches →
      rows ≡ picture st.step st.cells (fed net st s) t → option_map st.done (advance st.step None rows).1 ≡ leaving net net.limits.stages s t
  leaves_run net st Good Fits t s rows sound lt is =
      let one : suc (net.limits.stages - 1) ≡ net.limits.stages = omega (arith, sound.some) in
      let tick = tick_pipe st.step st.cells (fed net st s) t (net.limits.stages - 1) rows (sound.long ∙ sym one) is in
      ap (option_map st.done) tick.1
      ∙ ap (λ (k : ℕ). option_map st.done (late (ends st.step st.cells (fed net st s)) t k)) one
      ∙ late_done st.done (ends st.step st.cells (fed net st s)) (entering net s) t net.limits.stages (λ e. ends_run net st Good Fits sound.does sound.fit s e lt)

  -- and the packets that stay in it, with the one that enters
  pub stays_picture : (net : Network) (st : Stages C P) (Good : List C → Type 0) (Fits : Event → Type 0) (t s : ℕ) (rows : List (Row C P)) → IsSound net st Good Fits →
      rows ≡ picture st.step st.cells (fed net st s) t → entered_by (fed net st s t) (advance st.step None rows).0 ≡ picture st.step st.cells (fed net st s) (suc t)
  stays_picture net st Good Fits t s rows sound is =
      let one : suc (net.limits.stages - 1) ≡ net.limits.stages = omega (arith, sound.some) in
      (tick_pipe st.step st.cells (fed net st s) t (net.limits.stages - 1) rows (sound.long ∙ sym one) is).0

  came_is : (net : Network) (st : Stages C P) (t s : ℕ) (w : State) (o : Option Pending) →
      packet_for st t s o ≡ option_map (packet_of st) (option_map (λ p. run_at net t s w p.event) o)
  came_is net st t s w None = refl
  came_is net st t s w (Some p) = refl

  pub keeps_flying : (net : Network) (st : Stages C P) (Good : List C → Type 0) (Fits : Event → Type 0) (t s : ℕ) (now : Flying C P) → IsSound net st Good Fits → s < net.scene.switches → t < net.scene.stop →
      IsFlying net st t s now → IsFlying net st t (suc s) (flying_turn net st t s now)
  keeps_flying net st Good Fits t s now sound lt early is = record {
    long = length-set now.pipes s _ ∙ is.long;
    pipes = λ u below. at_switch u below (cases_eq u s);
    behind = subst (λ (j : ℕ). IsBehindBy net (net.limits.stages * n) j new.pending) number behind.behind;
    entered = entered ∙ ap (λ (j : ℕ). (nth net j).entered) number;
    lost = lost;
  }
    where
      n : ℕ
      n = net.scene.switches

      i : ℕ
      i = t * n + s

      number : suc i ≡ t * n + suc s
      number = omega arith

      w : State
      w = turns net t s (ticks net t)

      new : Flying C P
      new = flying_turn net st t s now

      rows : List (Row C P)
      rows = get_or now.pipes s []

      rows_are : rows ≡ picture st.step st.cells (fed net st s) t
      rows_are = is.pipes s lt ∙ ap (picture st.step st.cells (fed net st s)) (clock_self t s)

      r : Option Run
      r = option_map st.done (advance st.step None rows).1

      left : r ≡ late (runs net s) t net.limits.stages
      left = leaves_run net st Good Fits t s rows sound lt rows_are ∙ leaving_early net s t early

      q : List Pending
      q = put_all (made_by net r) now.pending

      behind : TurnBehind net t s q
      behind = subst (λ (x : Option Run). TurnBehind net t s (put_all (made_by net x) now.pending)) (sym left)
          (stays_behind net t s now.pending sound.some lt (omega (arith, early, sound.short)) sound.links is.behind)

      first : Option Pending
      first = find (is_ready s t) q

      came : packet_for st t s first ≡ fed net st s t
      came = ap (packet_for st t s) behind.enters ∙ came_is net st t s w (find (is_ready s t) w.pending) ∙ ap (option_map (packet_of st)) (sym (entering_early net s t early))

      next : nth net (suc i) ≡ turn net t s w
      next = nth-next net t s lt ∙ ap (turn net t s) (by_number net t s (omega (arith, lt)))

      entered : new.entered ≡ (nth net (suc i)).entered
      entered =
          ap (λ (k : ℕ). k + one_if first) (is.entered ∙ ap (λ (x : State). x.entered) (by_number net t s (omega (arith, lt))))
          ∙ ap (λ (o : Option Pending). w.entered + one_if o) behind.enters
          ∙ sym (ap (λ (x : State). x.entered) next ∙ enters_entered net t s w (find (is_ready s t) w.pending))

      lost : new.lost ≡ (nth net (t * n + suc s - net.limits.stages * n)).lost
      lost =
          ap (λ (k : ℕ). k + losses_by net r) is.lost ∙ ap (λ (x : Option Run). (nth net (i - net.limits.stages * n)).lost + losses_by net x) left ∙ sym behind.lost
          ∙ ap (λ (j : ℕ). (nth net (j - net.limits.stages * n)).lost) number

      at_switch : (u : ℕ) → u < n → (u ≡ s) ⊎ (u ≢ s) → get_or new.pipes u [] ≡ picture st.step st.cells (fed net st u) (clock t (suc s) u)
      at_switch u below (inl same) =
          subst (λ (v : ℕ). get_or new.pipes v [] ≡ picture st.step st.cells (fed net st v) (clock t (suc s) v)) (sym same)
          (get_or-set_same now.pipes s _ [] (subst (λ (j : ℕ). s < j) (sym is.long) lt)
          ∙ ap (λ (x : Option P). entered_by x (advance st.step None rows).0) came ∙ stays_picture net st Good Fits t s rows sound rows_are
          ∙ ap (picture st.step st.cells (fed net st s)) (sym (clock_done t s)))
      at_switch u below (inr other) = get_or-set_other now.pipes s u _ [] other ∙ is.pipes u below ∙ ap (picture st.step st.cells (fed net st u)) (sym (clock_other t s u other))

  -- the last switch of a tick is followed by the first of the next
  pub flying_next : (net : Network) (st : Stages C P) (t : ℕ) (now : Flying C P) → IsFlying net st t net.scene.switches now → IsFlying net st (suc t) 0 now
  flying_next net st t now is = record {
    long = is.long;
    pipes = λ u below. is.pipes u below ∙ ap (picture st.step st.cells (fed net st u)) (clock_end t net.scene.switches u below ∙ sym (clock_start (suc t) u));
    behind = subst (λ (j : ℕ). IsBehindBy net (net.limits.stages * net.scene.switches) j now.pending) number is.behind;
    entered = is.entered ∙ ap (λ (j : ℕ). (nth net j).entered) number;
    lost = is.lost ∙ ap (λ (j : ℕ). (nth net (j - net.limits.stages * net.scene.switches)).lost) number;
  }
    where
      number : t * net.scene.switches + net.scene.switches ≡ suc t * net.scene.switches + 0
      number = grind arith

  pub flying_start : (net : Network) (st : Stages C P) (pipes : List (List (Row C P))) → pipes ≡ replicate net.scene.switches (empty_pipe st.cells) →
      IsFlying net st 0 0 (record { pipes = pipes; pending = (start net).pending; entered = 0; lost = 0 })
  flying_start net st pipes are = record {
    long = ap (λ (l : List (List (Row C P))). length l) are ∙ length-replicate net.scene.switches (empty_pipe st.cells);
    pipes = λ u below.
        ap (λ (l : List (List (Row C P))). get_or l u []) are ∙ get_or-replicate net.scene.switches u (empty_pipe st.cells) [] below
        ∙ picture-start st.step st.cells (fed net st u) ∙ ap (picture st.step st.cells (fed net st u)) (sym (clock_start 0 u));
    behind = subst (λ (j : ℕ). IsBehindBy net (net.limits.stages * net.scene.switches) j (start net).pending) none
        (subst (λ (o : ℕ). IsBehind net o (0 - o) 0 (start net).pending) nought (record { turns = refl; pending = refl; ordered = stays_in_order net 0 0 }));
    entered = ap (λ (j : ℕ). (nth net j).entered) none;
    lost = ap (λ (j : ℕ). (nth net j).lost) (nought ∙ ap (λ (j : ℕ). j - net.limits.stages * net.scene.switches) none);
  }
    where
      none : 0 ≡ 0 * net.scene.switches + 0
      none = omega arith

      nought : 0 ≡ 0 - net.limits.stages * net.scene.switches
      nought = omega arith
