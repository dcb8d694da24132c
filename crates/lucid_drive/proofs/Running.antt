-- The loops of a whole drive: the done part, and the rest.
use Rattle.std.proofs.Common.{◌≡◌, ℕ, zero, suc, ◌+◌, ◌-◌, ◌<◌, ◌≤◌, List, [], ◌∷◌, ◌++◌, Option, None, Some, drop, get_or, length, take, refl, sym, ◌∙◌, ap, subst, add-one, drop-cons, drop_of_length-le, arith}
use Rattle.std.proofs.Math.Seq.{take-length}
use Rattle.lucid_conf.specs.declared.scene.Scene.{Scene}
use Rattle.lucid_conf.specs.declared.scene.Step.{Step}
use Rattle.lucid_conf.specs.declared.scene.Step.TheVariants.{Enter}
use Rattle.lucid_core.specs.Parts.{CoreParts}
use Rattle.lucid_io.proofs.Leaves.{Leaves-after, Leaves-nothing, Leaves-whole, PutsPart-at}
use Rattle.lucid_io.specs.Puts.{Leaves, PutsAll, PutsPart}
use Rattle.lucid_pipe.specs.Pipe.{PipeParts}
use Rattle.lucid_pipe.specs.declared.sight.Sight.{Sight}
use Rattle.lucid_tables.specs.Placed.{PlacedParts}
use Rattle.lucid_drive.specs.Drive.{Done, Drive, Progress, after_steps, begun, does, flight_text, left, moved, progress_from, text_from}
use Rattle.lucid_drive.specs.Flush.{flushes_at, oldest}
use Rattle.lucid_drive.specs.Sights.{sight_at, sights_from, sights_to}
use Rattle.lucid_pipe.specs.Sights.{ShowsAll}
use Rattle.lucid_drive.specs.Standing.{IsAt, drive_of}
use Rattle.lucid_drive.specs.State.{IsEmpty, StandsAfter, flush_at, progress_at, step_at, text_to}
use Rattle.lucid_drive.specs.declared.state.DriveState.{DriveState}
use Rattle.lucid_drive.proofs.Driving.{length_take}
use Rattle.lucid_drive.proofs.Flushing.{flight_next, no_flight}
use Rattle.lucid_drive.proofs.Seeing.{Showing, showing_all, showing_first, showing_next}
use Rattle.lucid_drive.proofs.Standing.{passed_many}
use Rattle.lucid_drive.proofs.States.{all_passed, last_found, next_is, step_is}

pub drive_same : (parts : CoreParts) (scene : Scene) (a b : PipeParts) → a.placed ≡ b.placed → drive_of parts a scene ≡ drive_of parts b scene
drive_same parts scene a b same = ap (λ (placed : PlacedParts). record { parts = parts; stages = placed.stages; scene = scene }) same

-- ---- steps

get_any : (xs : List Step) (k : ℕ) (a b : Step) → k < length xs → get_or xs k a ≡ get_or xs k b
get_any [] k a b lt = absurd (omega (arith, lt))
get_any (x ∷ xs) zero a b lt = refl
get_any (x ∷ xs) (suc k) a b lt = get_any xs k a b (omega (arith, lt))

get_take : (xs : List Step) (n k : ℕ) (d : Step) → k < n → get_or (take n xs) k d ≡ get_or xs k d
get_take xs zero k d lt = absurd (omega (arith, lt))
get_take [] (suc n) k d lt = refl
get_take (x ∷ xs) (suc n) zero d lt = refl
get_take (x ∷ xs) (suc n) (suc k) d lt = get_take xs n k d (omega (arith, lt))

module _ (d : Drive) (xs : List Step) (n : ℕ) (inside : n < length xs) (within : n < length d.scene.steps) (same : get_or xs n Enter ≡ get_or d.scene.steps n Enter) where
  abbrev s : Step
  s = get_or xs n Enter

  this : s ≡ get_or d.scene.steps n s
  this = same ∙ get_any d.scene.steps n Enter s within

  cut : drop n xs ≡ s ∷ drop (n + 1) xs
  cut = drop-cons xs n Enter inside ∙ ap (λ (m : ℕ). s ∷ drop m xs) (sym (add-one n))

  done_is : step_at d n ≡ does d (progress_at d n 0) s
  done_is = step_is d n s within this

  next : progress_at d (n + 1) 0 ≡ (does d (progress_at d n 0) s).progress
  next = next_is d n s within this

  -- The rest begins with the text of the next step, and with its sight.
  pub text_next : text_from d (progress_at d n 0) (drop n xs) ≡ (step_at d n).text ++ text_from d (progress_at d (n + 1) 0) (drop (n + 1) xs)
  text_next =
      ap (text_from d (progress_at d n 0)) cut
      ∙ sym (ap (λ (q : Done). q.text ++ text_from d (does d (progress_at d n 0) s).progress (drop (n + 1) xs)) done_is)
      ∙ sym (ap (λ (p : Progress). (step_at d n).text ++ text_from d p (drop (n + 1) xs)) next)

  pub sights_next : sights_from d (progress_at d n 0) (drop n xs) ≡ sight_at d (progress_at d (n + 1) 0) ∷ sights_from d (progress_at d (n + 1) 0) (drop (n + 1) xs)
  sights_next =
      ap (sights_from d (progress_at d n 0)) cut
      ∙ sym (ap (λ (p : Progress). sight_at d p ∷ sights_from d p (drop (n + 1) xs)) next)

-- This many of the first `count` steps are done.
pub record Stepping {T : Type 0} (written : T → Option (List ℕ)) (faults : T → ℕ) (old now : T) (shown seen : Option (List Sight)) (parts : CoreParts) (scene : Scene) (start pipe : PipeParts) (state : DriveState) (count n : ℕ) : Type 0 where
  pub same : pipe.placed ≡ start.placed
  pub done : state.done ≡ n
  pub at : StandsAfter parts scene state 0 pipe
  pub text : Leaves written faults old now (text_to (drive_of parts start scene) count) (text_from (drive_of parts start scene) (progress_at (drive_of parts start scene) n 0) (drop n (take count scene.steps)))
  pub sights : Showing shown seen (sights_to (drive_of parts start scene) count) (sights_from (drive_of parts start scene) (progress_at (drive_of parts start scene) n 0) (drop n (take count scene.steps)))

pub stepping_first : {T : Type 0} (written : T → Option (List ℕ)) (faults : T → ℕ) (sink : T) (shown : Option (List Sight)) (parts : CoreParts) (scene : Scene) (start : PipeParts) (state : DriveState) (count : ℕ) → StandsAfter parts scene state 0 start → state.done ≡ 0 →
    Stepping written faults sink sink shown shown parts scene start start state count 0
stepping_first written faults sink shown parts scene start state count at begins = record {
  same = refl;
  done = begins;
  at = at;
  text = Leaves-whole;
  sights = showing_first shown (sights_to (drive_of parts start scene) count);
}

module _ {T : Type 0} {written : T → Option (List ℕ)} {faults : T → ℕ} (old now : T) (shown seen : Option (List Sight)) (parts : CoreParts) (scene : Scene) (start pipe : PipeParts) (state : DriveState) (count n : ℕ)
    (lt : n < count) (within : count ≤ length scene.steps) (so : Stepping written faults old now shown seen parts scene start pipe state count n) where
  abbrev d : Drive
  d = drive_of parts start scene

  pub below : state.done < length scene.steps
  below = omega (arith, lt, within, so.done)

  inside : n < length (take count scene.steps)
  inside = subst (λ (m : ℕ). n < m) (sym (length_take count scene.steps within)) lt

  there : n < length scene.steps
  there = omega (arith, lt, within)

  -- The text of the step.
  pub step_text : (step_at (drive_of parts pipe scene) state.done).text ≡ (step_at (drive_of parts start scene) n).text
  step_text = ap (λ (e : Drive). (step_at e state.done).text) (drive_same parts scene pipe start so.same) ∙ ap (λ (m : ℕ). (step_at (drive_of parts start scene) m).text) so.done

  pub text_left : text_from (drive_of parts start scene) (progress_at (drive_of parts start scene) n 0) (drop n (take count scene.steps))
      ≡ (step_at (drive_of parts start scene) n).text ++ text_from (drive_of parts start scene) (progress_at (drive_of parts start scene) (n + 1) 0) (drop (n + 1) (take count scene.steps))
  text_left = text_next (drive_of parts start scene) (take count scene.steps) n inside there (get_take scene.steps count n Enter lt)

  pub stepping_cut : (new : T) → PutsPart written faults now new (step_at (drive_of parts pipe scene) state.done).text → PutsPart written faults old new (text_to (drive_of parts start scene) count)
  stepping_cut new cut =
      PutsPart-at (text_from (drive_of parts start scene) (progress_at (drive_of parts start scene) (n + 1) 0) (drop (n + 1) (take count scene.steps))) so.text (subst (PutsPart written faults now new) step_text cut) text_left

  pub stepping_next : (new : T) (seen_then : Option (List Sight)) (then_pipe : PipeParts) (then_state : DriveState) → then_pipe.placed ≡ pipe.placed → then_state.done ≡ state.done + 1 → StandsAfter parts scene then_state 0 then_pipe →
      PutsAll written faults now new (step_at (drive_of parts pipe scene) state.done).text →
      ((p : Progress) → IsAt parts scene p then_pipe → ShowsAll seen seen_then (sight_at (drive_of parts then_pipe scene) p ∷ [])) →
      Stepping written faults old new shown seen_then parts scene start then_pipe then_state count (n + 1)
  stepping_next new seen_then then_pipe then_state same done at puts shows = record {
    same = same ∙ so.same;
    done = then_done;
    at = at;
    text = Leaves-after so.text (subst (PutsAll written faults now new) step_text puts) text_left;
    sights = showing_next shown seen seen_then (sights_to (drive_of parts start scene) count) _ _ (sight_at (drive_of parts start scene) (progress_at (drive_of parts start scene) (n + 1) 0)) so.sights
        (subst (λ (s : Sight). ShowsAll seen seen_then (s ∷ [])) sight (shows (progress_at (drive_of parts then_pipe scene) then_state.done 0) at.is))
        (sights_next (drive_of parts start scene) (take count scene.steps) n inside there (get_take scene.steps count n Enter lt));
  }
    where
      then_done : then_state.done ≡ n + 1
      then_done = done ∙ ap (λ (m : ℕ). m + 1) so.done

      sight : sight_at (drive_of parts then_pipe scene) (progress_at (drive_of parts then_pipe scene) then_state.done 0) ≡ sight_at (drive_of parts start scene) (progress_at (drive_of parts start scene) (n + 1) 0)
      sight = ap (λ (e : Drive). sight_at e (progress_at e then_state.done 0)) (drive_same parts scene then_pipe start (same ∙ so.same)) ∙ ap (λ (m : ℕ). sight_at (drive_of parts start scene) (progress_at (drive_of parts start scene) m 0)) then_done

module _ {T : Type 0} {written : T → Option (List ℕ)} {faults : T → ℕ} {old now : T} {shown seen : Option (List Sight)} (parts : CoreParts) (scene : Scene) (start pipe : PipeParts) (state : DriveState) (count n : ℕ)
    (le : count ≤ n) (within : count ≤ length scene.steps) (so : Stepping written faults old now shown seen parts scene start pipe state count n) where
  none_left : drop n (take count scene.steps) ≡ []
  none_left = drop_of_length-le (take count scene.steps) (subst (λ (m : ℕ). m ≤ n) (sym (length_take count scene.steps within)) le)

  pub steps_text : PutsAll written faults old now (text_to (drive_of parts start scene) count)
  steps_text = Leaves-nothing so.text (ap (text_from (drive_of parts start scene) (progress_at (drive_of parts start scene) n 0)) none_left)

  pub steps_sights : ShowsAll shown seen (sights_to (drive_of parts start scene) count)
  steps_sights = showing_all shown seen _ _ so.sights (ap (sights_from (drive_of parts start scene) (progress_at (drive_of parts start scene) n 0)) none_left)

-- ---- all steps

pub all_steps : (d : Drive) → progress_at d (length d.scene.steps) 0 ≡ after_steps d
all_steps d = ap (progress_from d (begun d)) (take-length d.scene.steps)

-- ---- the packets in flight

-- The oldest packet moved so often.
pub record Flushing {T : Type 0} (written : T → Option (List ℕ)) (faults : T → ℕ) (old now : T) (parts : CoreParts) (scene : Scene) (start pipe : PipeParts) (state : DriveState) : Type 0 where
  pub moves : ℕ
  pub same : pipe.placed ≡ start.placed
  pub done : state.done ≡ length scene.steps
  pub at : StandsAfter parts scene state moves pipe
  pub entered : (progress_at (drive_of parts start scene) (length scene.steps) moves).entered ≡ (after_steps (drive_of parts start scene)).entered
  pub text : Leaves written faults old now (flight_text (drive_of parts start scene) (after_steps (drive_of parts start scene))) (flight_text (drive_of parts start scene) (progress_at (drive_of parts start scene) (length scene.steps) moves))

pub flushing_first : {T : Type 0} (written : T → Option (List ℕ)) (faults : T → ℕ) (sink : T) (parts : CoreParts) (scene : Scene) (start : PipeParts) (state : DriveState) → StandsAfter parts scene state 0 start → state.done ≡ length scene.steps →
    Flushing written faults sink sink parts scene start start state
flushing_first written faults sink parts scene start state at done = record {
  moves = 0;
  same = refl;
  done = done;
  at = at;
  entered = ap (λ (p : Progress). p.entered) (all_steps (drive_of parts start scene));
  text = subst (λ (p : Progress). Leaves written faults sink sink (flight_text (drive_of parts start scene) (after_steps (drive_of parts start scene))) (flight_text (drive_of parts start scene) p)) (sym (all_steps (drive_of parts start scene))) Leaves-whole;
}

module _ {T : Type 0} {written : T → Option (List ℕ)} {faults : T → ℕ} (old now : T) (parts : CoreParts) (scene : Scene) (start pipe : PipeParts) (state : DriveState) (so : Flushing written faults old now parts scene start pipe state) where
  -- where the drive is
  abbrev here : Progress
  here = progress_at (drive_of parts start scene) (length scene.steps) so.moves

  here_is : progress_at (drive_of parts pipe scene) state.done so.moves ≡ here
  here_is = ap (λ (e : Drive). progress_at e state.done so.moves) (drive_same parts scene pipe start so.same) ∙ ap (λ (n : ℕ). progress_at (drive_of parts start scene) n so.moves) so.done

  stands : IsAt parts scene here pipe
  stands = subst (λ (p : Progress). IsAt parts scene p pipe) here_is so.at.is

  -- The text of a move of the oldest.
  pub flush_text : (flush_at (drive_of parts pipe scene) state.done so.moves).text ≡ (flush_at (drive_of parts start scene) (length scene.steps) so.moves).text
  flush_text = ap (λ (e : Drive). (flush_at e state.done so.moves).text) (drive_same parts scene pipe start so.same) ∙ ap (λ (n : ℕ). (flush_at (drive_of parts start scene) n so.moves).text) so.done

  by_oldest : (found : Option ℕ) → oldest here ≡ found →
      (flight_text (drive_of parts start scene) here ≡ (flushes_at (drive_of parts start scene) here found).text ++ flight_text (drive_of parts start scene) (flushes_at (drive_of parts start scene) here found).progress)
      × ((flushes_at (drive_of parts start scene) here found).progress.entered ≡ here.entered)
  by_oldest None e = (refl, refl)
  by_oldest (Some k) e = (
    subst (λ (d : Drive). flight_text d here ≡ Rattle.lucid_drive.specs.Drive.left_text d here k ++ flight_text d (moved here k)) (drive_same parts scene pipe start so.same)
        (flight_next parts scene here pipe stands k (last_found (Rattle.lucid_drive.specs.Drive.is_taken here) (length here.passed) k e).here),
    refl,
  )

  pub flight_left : flight_text (drive_of parts start scene) here
      ≡ (flush_at (drive_of parts start scene) (length scene.steps) so.moves).text ++ flight_text (drive_of parts start scene) (progress_at (drive_of parts start scene) (length scene.steps) (suc so.moves))
  flight_left = (by_oldest (oldest here) refl).0

  pub flushing_cut : (new : T) → PutsPart written faults now new (flush_at (drive_of parts pipe scene) state.done so.moves).text →
      PutsPart written faults old new (flight_text (drive_of parts start scene) (after_steps (drive_of parts start scene)))
  flushing_cut new cut =
      PutsPart-at (flight_text (drive_of parts start scene) (progress_at (drive_of parts start scene) (length scene.steps) (suc so.moves))) so.text (subst (PutsPart written faults now new) flush_text cut) flight_left

  pub flushing_next : (new : T) (then_pipe : PipeParts) (then_state : DriveState) → then_pipe.placed ≡ pipe.placed → then_state.done ≡ state.done → StandsAfter parts scene then_state (suc so.moves) then_pipe →
      PutsAll written faults now new (flush_at (drive_of parts pipe scene) state.done so.moves).text → Flushing written faults old new parts scene start then_pipe then_state
  flushing_next new then_pipe then_state same done at puts = record {
    moves = suc so.moves;
    same = same ∙ so.same;
    done = done ∙ so.done;
    at = at;
    entered = (by_oldest (oldest here) refl).1 ∙ so.entered;
    text = Leaves-after so.text (subst (PutsAll written faults now new) flush_text puts) flight_left;
  }

  -- Once none is in flight, nothing is left.
  pub flight_none : IsEmpty pipe → 0 < length pipe.placed.stages → flight_text (drive_of parts start scene) here ≡ []
  flight_none empty some =
      let many : length here.passed ≡ length pipe.placed.stages = passed_many parts scene here pipe stands in
      let last : length here.passed - 1 < length pipe.placed.stages = omega (arith, many, some) in
      let all : left here ≡ here.entered = all_passed parts scene here pipe stands empty (length here.passed - 1) last in
      no_flight (drive_of parts start scene) here (omega (arith, all))

  pub flushed_entered : state.entered ≡ (after_steps (drive_of parts start scene)).entered
  flushed_entered = so.at.entered ∙ ap (λ (p : Progress). p.entered) here_is ∙ so.entered
