-- The end of a run: packets leave, and nothing enters.
use Rattle.std.proofs.Common.{◌≡◌, ◌≢◌, ℕ, zero, suc, ◌+◌, ◌-◌, ◌*◌, ◌<◌, ◌≤◌, ◌⊎◌, inl, inr, ⊎_elim, List, [], ◌∷◌, ◌++◌, length, get_or, set, Option, None, Some, Bool, true, false, if◌then◌else◌, option_map, refl, sym, ◌∙◌, ap, subst, length-append, arith}
use Rattle.std.proofs.lemmas.Bool.{cases_eq}
use Rattle.std.proofs.lemmas.List.{get_or-set_same, get_or-set_other, length-set}
use Rattle.lucid_base.specs.declared.event.Event.{Event}
use Rattle.lucid_net_spec.proofs.Numbers.{by_number}
use Rattle.lucid_net_spec.specs.Laws.{nth}
use Rattle.lucid_net_spec.specs.Log.{State, put_all, ticks, turn}
use Rattle.lucid_net_spec.specs.Ways.{Network, Run}
use Rattle.lucid_pipe_laws.proofs.Stream.{empties, late_at, late_none, passes}
use Rattle.lucid_pipe_laws.specs.Moves.{advance, entered_by}
use Rattle.lucid_pipe_laws.specs.Rows.{Row, empty_pipe}
use Rattle.lucid_pipe_laws.specs.Stream.{cells_at, ends, passed, picture}
use Rattle.lucid_queue.specs.Order.{is_before}
use Rattle.lucid_queue.specs.Waiting.{put_in}
use Rattle.lucid_queue.specs.declared.pending.Pending.{Pending}
use Rattle.lucid_net_laws.specs.Behind.{mades, nth_run}
use Rattle.lucid_net_laws.specs.Draining.{IsDraining, draining_count, draining_turn}
use Rattle.lucid_net_laws.specs.Flying.{Flying, IsFlying, IsSound}
use Rattle.lucid_net_laws.specs.Runs.{entering, leaving, losses_by, made_by, run_of, runs}
use Rattle.lucid_net_laws.specs.Stages.{Stages, fed, packet_of}
use Rattle.lucid_net_laws.specs.Whole.{clock}
use Rattle.lucid_net_laws.proofs.Behind.{nth-next, nth_run-is, parted, turn_lost}
use Rattle.lucid_net_laws.proofs.Flying.{leaves_run, stays_picture}
use Rattle.lucid_net_laws.proofs.Whole.{clock_done, clock_end, clock_other, clock_self, clock_start, entering_early, entering_late, whole_at}

length-put : (x : Pending) (ps : List Pending) → length (put_in is_before x ps) ≡ suc (length ps)
length-put x [] = refl
length-put x (y ∷ ys) = at (is_before x y) (length-put x ys)
  where
    at : (b : Bool) → length (put_in is_before x ys) ≡ suc (length ys) → length (if b then x ∷ y ∷ ys else y ∷ put_in is_before x ys) ≡ suc (suc (length ys))
    at true is = refl
    at false is = ap suc is

pub length-put_all : (xs ps : List Pending) → length (put_all xs ps) ≡ length xs + length ps
length-put_all [] ps = omega arith
length-put_all (x ∷ xs) ps = omega (arith, length-put_all xs (put_in is_before x ps), length-put x ps)

both_times : (a b n : ℕ) → (a + b) * n ≡ a * n + b * n
both_times a b n = grind arith

module _ {C P : Type 0} where
  pub fed_late : (net : Network) (st : Stages C P) (s t : ℕ) → net.scene.stop ≤ t → fed net st s t ≡ None
  fed_late net st s t le = ap (option_map (packet_of st)) (entering_late net s t le)

  pub drains_first : (net : Network) (st : Stages C P) (now : Flying C P) → IsFlying net st net.scene.stop 0 now → IsDraining net st net.scene.stop 0 now (length now.pending)
  drains_first net st now is = record {
    long = is.long;
    pipes = is.pipes;
    lost = is.lost;
    counted = counted;
  }
    where
      n : ℕ
      n = net.scene.switches

      i : ℕ
      i = net.scene.stop * n + 0

      written : ℕ
      written = i - net.limits.stages * n

      number : i ≡ net.scene.stop * n
      number = omega arith

      counted : length now.pending + length (mades net written (net.scene.stop * n - written)) ≡ length (ticks net net.scene.stop).pending
      counted =
          let all : length (put_all (mades net written (i - written)) now.pending) ≡ length (nth net i).pending = ap (λ (l : List Pending). length l) is.behind.pending in
          let sum : length (mades net written (i - written)) + length now.pending ≡ length (nth net i).pending = sym (length-put_all (mades net written (i - written)) now.pending) ∙ all in
          let count : i - written ≡ net.scene.stop * n - written = ap (λ (j : ℕ). j - written) number in
          let same : length (mades net written (i - written)) ≡ length (mades net written (net.scene.stop * n - written)) = ap (λ (c : ℕ). length (mades net written c)) count in
          let end : length (nth net i).pending ≡ length (ticks net net.scene.stop).pending = ap (λ (w : State). length w.pending) (by_number net net.scene.stop 0 (omega arith)) in
          omega (arith, sum, same, end)

  none_entered : (o : Option P) (rows : List (Row C P)) (step : ℕ → C → P → C × P) → entered_by None (advance step None rows).0 ≡ (advance step None rows).0
  none_entered o [] step = refl
  none_entered o (r ∷ rs) step = refl

  pub keeps_draining : (net : Network) (st : Stages C P) (Good : List C → Type 0) (Fits : Event → Type 0) (t s waiting : ℕ) (now : Flying C P) → IsSound net st Good Fits → s < net.scene.switches →
      net.scene.stop ≤ t → t < net.scene.stop + net.limits.stages → IsDraining net st t s now waiting → IsDraining net st t (suc s) (draining_turn net st s now) (waiting + draining_count net st s now)
  keeps_draining net st Good Fits t s waiting now sound lt late early is = record {
    long = length-set now.pipes s _ ∙ is.long;
    pipes = λ u below. at_switch u below (cases_eq u s);
    lost = (⊎_elim before after (parted t k s n lt)).0;
    counted = (⊎_elim before after (parted t k s n lt)).1;
  }
    where
      n : ℕ
      n = net.scene.switches

      k : ℕ
      k = net.limits.stages

      i : ℕ
      i = t * n + s

      j : ℕ
      j = t * n + suc s

      rows : List (Row C P)
      rows = get_or now.pipes s []

      rows_are : rows ≡ picture st.step st.cells (fed net st s) t
      rows_are = is.pipes s lt ∙ ap (picture st.step st.cells (fed net st s)) (clock_self t s)

      r : Option Run
      r = option_map st.done (advance st.step None rows).1

      left : r ≡ leaving net k s t
      left = leaves_run net st Good Fits t s rows sound lt rows_are

      new : Flying C P
      new = draining_turn net st s now

      stays : (advance st.step None rows).0 ≡ picture st.step st.cells (fed net st s) (suc t)
      stays = sym (none_entered None rows st.step) ∙ ap (λ (o : Option P). entered_by o (advance st.step None rows).0) (sym (fed_late net st s t late)) ∙ stays_picture net st Good Fits t s rows sound rows_are

      at_switch : (u : ℕ) → u < n → (u ≡ s) ⊎ (u ≢ s) → get_or new.pipes u [] ≡ picture st.step st.cells (fed net st u) (clock t (suc s) u)
      at_switch u below (inl same) =
          subst (λ (v : ℕ). get_or new.pipes v [] ≡ picture st.step st.cells (fed net st v) (clock t (suc s) v)) (sym same)
          (get_or-set_same now.pipes s _ [] (subst (λ (m : ℕ). s < m) (sym is.long) lt) ∙ stays ∙ ap (picture st.step st.cells (fed net st s)) (sym (clock_done t s)))
      at_switch u below (inr other) = get_or-set_other now.pipes s u _ [] other ∙ is.pipes u below ∙ ap (picture st.step st.cells (fed net st u)) (sym (clock_other t s u other))

      Counts : Type 0
      Counts =
          (now.lost + losses_by net r ≡ (nth net (j - k * n)).lost)
          × (waiting + length (made_by net r) + length (mades net (j - k * n) (net.scene.stop * n - (j - k * n))) ≡ length (ticks net net.scene.stop).pending)

      before : (t < k) × (i < k * n) → Counts
      before when =
          let none : r ≡ None = left ∙ late_none (entering net s) t k when.0 in
          let lost : losses_by net r ≡ 0 = ap (losses_by net) none in
          let made : length (made_by net r) ≡ 0 = ap (λ (o : Option Run). length (made_by net o)) none in
          let same : i - k * n ≡ j - k * n = omega (arith, when.1) in
          let nth_same : (nth net (i - k * n)).lost ≡ (nth net (j - k * n)).lost = ap (λ (m : ℕ). (nth net m).lost) same in
          let mades_same : length (mades net (i - k * n) (net.scene.stop * n - (i - k * n))) ≡ length (mades net (j - k * n) (net.scene.stop * n - (j - k * n))) =
          ap (λ (m : ℕ). length (mades net m (net.scene.stop * n - m))) same in
          (omega (arith, lost, nth_same, is.lost), omega (arith, made, mades_same, is.counted))

      after : (d : ℕ) × (k + d ≡ t) × ((d * n + s) + k * n ≡ i) → Counts
      after when =
          let d = when.0 in
          let out = d * n + s in
          let soon : d < net.scene.stop = omega (arith, when.1, early) in
          let here : i - k * n ≡ out = omega (arith, when.2) in
          let next : suc out ≡ j - k * n = omega (arith, when.2) in
          let gone : r ≡ runs net s d = left ∙ ap (λ (m : ℕ). leaving net k s m) (sym when.1) ∙ late_at (entering net s) d k ∙ entering_early net s d soon in
          let numbered : nth_run net out ≡ r = nth_run-is net d s lt ∙ sym gone in
          let lost : (nth net (suc out)).lost ≡ (nth net out).lost + losses_by net (run_of net d s (nth net out)) = ap (λ (w : State). w.lost) (nth-next net d s lt) ∙ turn_lost net d s (nth net out) in
          let run : losses_by net (run_of net d s (nth net out)) ≡ losses_by net r = ap (losses_by net) (ap (run_of net d s) (by_number net d s (omega (arith, lt))) ∙ sym gone) in
          let now_lost : now.lost ≡ (nth net out).lost = is.lost ∙ ap (λ (m : ℕ). (nth net m).lost) here in
          let new_lost : (nth net (suc out)).lost ≡ (nth net (j - k * n)).lost = ap (λ (m : ℕ). (nth net m).lost) next in
          let whole : d + 1 + (net.scene.stop - (d + 1)) ≡ net.scene.stop = omega (arith, soon) in
          let within : out < net.scene.stop * n = omega (arith, lt, ap (λ (m : ℕ). m * n) whole, both_times (d + 1) (net.scene.stop - (d + 1)) n, both_times d 1 n) in
          let count : net.scene.stop * n - out ≡ suc (net.scene.stop * n - suc out) = omega (arith, within) in
          let old : waiting + length (mades net out (net.scene.stop * n - out)) ≡ length (ticks net net.scene.stop).pending =
          subst (λ (m : ℕ). waiting + length (mades net m (net.scene.stop * n - m)) ≡ length (ticks net net.scene.stop).pending) here is.counted in
          let split : length (mades net out (net.scene.stop * n - out)) ≡ length (made_by net (nth_run net out)) + length (mades net (suc out) (net.scene.stop * n - suc out)) =
          ap (λ (c : ℕ). length (mades net out c)) count ∙ length-append (made_by net (nth_run net out)) (mades net (suc out) (net.scene.stop * n - suc out)) in
          let made : length (made_by net (nth_run net out)) ≡ length (made_by net r) = ap (λ (o : Option Run). length (made_by net o)) numbered in
          let rest : length (mades net (suc out) (net.scene.stop * n - suc out)) ≡ length (mades net (j - k * n) (net.scene.stop * n - (j - k * n))) =
          ap (λ (m : ℕ). length (mades net m (net.scene.stop * n - m))) next in
          (omega (arith, lost, run, now_lost, new_lost), omega (arith, old, split, made, rest))

  pub drains_next : (net : Network) (st : Stages C P) (t waiting : ℕ) (now : Flying C P) → IsDraining net st t net.scene.switches now waiting → IsDraining net st (suc t) 0 now waiting
  drains_next net st t waiting now is = record {
    long = is.long;
    pipes = λ u below. is.pipes u below ∙ ap (picture st.step st.cells (fed net st u)) (clock_end t net.scene.switches u below ∙ sym (clock_start (suc t) u));
    lost = is.lost ∙ ap (λ (j : ℕ). (nth net (j - net.limits.stages * net.scene.switches)).lost) number;
    counted = subst (λ (j : ℕ). waiting + length (mades net (j - net.limits.stages * net.scene.switches) (net.scene.stop * net.scene.switches - (j - net.limits.stages * net.scene.switches))) ≡ length (ticks net net.scene.stop).pending) number is.counted;
  }
    where
      number : t * net.scene.switches + net.scene.switches ≡ suc t * net.scene.switches + 0
      number = grind arith

  -- nothing comes any more, so the cells stay
  cells_stay : (net : Network) (st : Stages C P) (u d : ℕ) → cells_at st.step st.cells (fed net st u) (net.scene.stop + d) ≡ cells_at st.step st.cells (fed net st u) net.scene.stop
  cells_stay net st u zero = ap (cells_at st.step st.cells (fed net st u)) none
    where
      none : net.scene.stop + zero ≡ net.scene.stop
      none = omega arith
  cells_stay net st u (suc d) =
      ap (cells_at st.step st.cells (fed net st u)) next
      ∙ ap (λ (l : List C × Option P). l.0) (sym (passes st.step st.cells (fed net st u) (net.scene.stop + d)))
      ∙ ap (λ (o : Option P). (passed st.step (cells_at st.step st.cells (fed net st u) (net.scene.stop + d)) o).0) (fed_late net st u (net.scene.stop + d) (omega arith))
      ∙ cells_stay net st u d
    where
      next : net.scene.stop + suc d ≡ suc (net.scene.stop + d)
      next = omega arith

  -- in the end the pipelines are empty, with the cells of the network
  pub drained : (net : Network) (st : Stages C P) (Good : List C → Type 0) (Fits : Event → Type 0) (now : Flying C P) (waiting : ℕ) → IsSound net st Good Fits →
      IsDraining net st (net.scene.stop + net.limits.stages) 0 now waiting →
      ((u : ℕ) → u < net.scene.switches → (cs : List C) × (get_or now.pipes u [] ≡ empty_pipe cs) × (st.view cs ≡ get_or (ticks net net.scene.stop).cells u []))
      × (now.lost ≡ (ticks net net.scene.stop).lost) × (waiting ≡ length (ticks net net.scene.stop).pending)
  drained net st Good Fits now waiting sound is = (
    λ u below. (
      cells_at st.step st.cells (fed net st u) t,
      is.pipes u below ∙ ap (picture st.step st.cells (fed net st u)) (clock_start t u)
          ∙ empties st.step st.cells (fed net st u) net.scene.stop t (λ e le. fed_late net st u e le) (omega (arith, sound.long)),
      ap st.view (cells_stay net st u net.limits.stages ∙ ap (cells_at st.step st.cells (fed net st u)) (sym (clock_start net.scene.stop u)))
          ∙ sym ((whole_at net st Good Fits net.scene.stop sound.does sound.fit (omega arith)).cells u below),
    ),
    is.lost ∙ ap (λ (m : ℕ). (nth net m).lost) all ∙ ap (λ (w : State). w.lost) (by_number net net.scene.stop 0 (omega arith)),
    omega (arith, is.counted, none),
  )
    where
      t : ℕ
      t = net.scene.stop + net.limits.stages

      n : ℕ
      n = net.scene.switches

      written : ℕ
      written = t * n + 0 - net.limits.stages * n

      all : written ≡ net.scene.stop * n + 0
      all = omega (arith, both_times net.scene.stop net.limits.stages n)

      no_more : net.scene.stop * n - written ≡ 0
      no_more = omega (arith, all)

      none : length (mades net written (net.scene.stop * n - written)) ≡ 0
      none = ap (λ (c : ℕ). length (mades net written c)) no_more
