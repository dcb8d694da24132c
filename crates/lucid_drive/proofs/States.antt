-- The state of a drive after a call.
use Rattle.std.proofs.Common.{◌≡◌, ℕ, zero, suc, ◌+◌, ◌<◌, ◌≤◌, ◌^◌, ◌↔◌, List, [], ◌∷◌, ◌++◌, Option, None, Some, Bool, true, false, ◌&&◌, if◌then◌else◌, get_or, length, nat_lt, slice_get, slice_index, take, is_some, codes, refl, sym, ◌∙◌, ap, subst, add-one, ⊎_elim, arith}
use Rattle.std.proofs.lemmas.Bool.Decides.{nat_tests}
use Rattle.std.proofs.lemmas.Bool.{cases_lt, le-ltb, true≢false}
use Rattle.std.proofs.lemmas.Option.{slice_get-get_or}
use Rattle.std.specs.Option.{option_and_then, option_map_or}
use Rattle.lucid_conf.specs.declared.scene.Scene.{Scene}
use Rattle.lucid_conf.specs.declared.scene.Step.{Step}
use Rattle.lucid_core.specs.Parts.{CoreParts}
use Rattle.lucid_core.specs.Laws.{CellsStayFit}
use Rattle.lucid_core.specs.Step as core
use Rattle.lucid_pipe.specs.Packets.{Packet}
use Rattle.lucid_pipe.specs.Pipe.{PipeParts, packet_at}
use Rattle.lucid_pipe_laws.specs.Places.{came}
use Rattle.lucid_tables.specs.Placed.{PlacedParts}
use Rattle.lucid_drive.specs.Drive.{Done, Drive, Progress, begun, does, entries, goes, is_taken, left_text, line, moved, progress_from, stays}
use Rattle.lucid_drive.specs.Flush.{flushes, flushes_at, last_below, oldest}
use Rattle.lucid_drive.specs.Happened.{Did, entered_after, happened_block}
use Rattle.lucid_drive.specs.Standing.{IsAt, drive_of}
use Rattle.lucid_drive.specs.State.{IsEmpty, NewStands, StandsAfter, counted, flush_at, progress_at, step_at}
use Rattle.lucid_drive.specs.declared.happened.Happened.{Happened}
use Rattle.lucid_drive.specs.declared.state.DriveState.{DriveState}
use Rattle.lucid_drive.proofs.Driving.{below, both_true, take_more}
use Rattle.lucid_drive.proofs.Moving.{begins_at}
use Rattle.lucid_drive.proofs.Standing.{Laws, ended, few_passed, passed_many, taken}
use Rattle.lucid_drive.proofs.Steps.{progress_next, went_is}

-- ---- the beginning

none_counted : 0 ≡ counted 0
none_counted = grind (arith, nat_tests)

pub new_stands : NewStands
new_stands parts scene placed kept stands_for arrays = record {
  kept = kept;
  sound = refl;
  done = omega arith;
  early = λ (more : 0 < length scene.steps). refl;
  flushed = none_counted;
  entered = refl;
  is = begins_at parts scene placed stands_for arrays;
}

-- ---- a step

pub step_is : (d : Drive) (n : ℕ) (s : Step) → n < length d.scene.steps → s ≡ get_or d.scene.steps n s → step_at d n ≡ does d (progress_at d n 0) s
step_is d n s lt this =
    ap (λ (o : Option Step). option_map_or (does d (progress_at d n 0)) o (stays [] (progress_at d n 0))) (slice_get-get_or d.scene.steps n s lt ∙ ap (λ (x : Step). Some x) (sym this))

pub next_is : (d : Drive) (n : ℕ) (s : Step) → n < length d.scene.steps → s ≡ get_or d.scene.steps n s → progress_at d (n + 1) 0 ≡ (does d (progress_at d n 0) s).progress
next_is d n s lt this =
    ap (λ (m : ℕ). progress_from d (begun d) (take m d.scene.steps)) (add-one n)
    ∙ ap (progress_from d (begun d)) (take_more n d.scene.steps s lt this)
    ∙ progress_next d (begun d) (take n d.scene.steps) s

pub this_step : (steps : List Step) (n : ℕ) (s : Step) → n < length steps → slice_get steps n ≡ Some s → s ≡ get_or steps n s
this_step steps n s lt is = inner (sym is ∙ slice_get-get_or steps n s lt)
  where
    inner : Some s ≡ Some (get_or steps n s) → s ≡ get_or steps n s
    inner e = cc

module _ (parts : CoreParts) (scene : Scene) (old : DriveState) (before after : PipeParts) (s : Step) (h : Happened) (at : StandsAfter parts scene old 0 before)
    (did : Did parts scene (progress_at (drive_of parts before scene) old.done 0).entered (does (drive_of parts before scene) (progress_at (drive_of parts before scene) old.done 0) s) h after) where
  pub stepped : (entered : ℕ) → old.done < length scene.steps → s ≡ get_or scene.steps old.done s → after.placed ≡ before.placed → entered ≡ entered_after old.entered h →
      StandsAfter parts scene (record { done = old.done + 1; flushed = old.flushed; entered = entered; failed = old.failed }) 0 after
  stepped entered lt this same is_entered = record {
    kept = at.kept;
    sound = at.sound;
    done = omega (arith, lt);
    early = λ (more : old.done + 1 < length scene.steps). refl;
    flushed = at.flushed;
    entered = is_entered ∙ ap (λ (n : ℕ). entered_after n h) at.entered ∙ did.entered ∙ ap (λ (p : Progress). p.entered) (sym next);
    is = subst (λ (p : Progress). IsAt parts scene p after) (sym next) did.is;
  }
    where
      next : progress_at (drive_of parts after scene) (old.done + 1) 0 ≡ (does (drive_of parts before scene) (progress_at (drive_of parts before scene) old.done 0) s).progress
      next = ap (λ (placed : PlacedParts). progress_at (record { parts = parts; stages = placed.stages; scene = scene }) (old.done + 1) 0) same ∙ next_is (drive_of parts before scene) old.done s lt this

-- ---- a move of the oldest packet

last_same : (f g : ℕ → Bool) (n : ℕ) → ((k : ℕ) → f k ≡ g k) → last_below f n ≡ last_below g n
last_same f g zero same = refl
last_same f g (suc n) same =
    ap (λ (b : Bool). if b then Some n else last_below f n) (same n) ∙ ap (λ (o : Option ℕ). if g n then Some n else o) (last_same f g n same)

-- The found number passes the test, and no later one does.
pub record LastBelow (test : ℕ → Bool) (n k : ℕ) : Type 0 where
  pub here : test k ≡ true
  pub within : k < n
  pub behind : (j : ℕ) → k < j → j < n → test j ≡ false

pub last_found : (test : ℕ → Bool) (n k : ℕ) → last_below test n ≡ Some k → LastBelow test n k
last_found test zero k is = cc
last_found test (suc n) k is = by (test n) refl (λ (e : last_below test n ≡ Some k). last_found test n k e)
  where
    some_is : ◌≡◌ {A = Option ℕ} (Some n) (Some k) → n ≡ k
    some_is f = cc

    by : (b : Bool) → test n ≡ b → (last_below test n ≡ Some k → LastBelow test n k) → LastBelow test (suc n) k
    by true e later =
        let same : n ≡ k = some_is (sym (ap (λ (b : Bool). if b then Some n else last_below test n) e) ∙ is) in
        record {
          here = subst (λ (m : ℕ). test m ≡ true) same e;
          within = omega (arith, same);
          behind = λ (j : ℕ) (more : k < j) (less : j < suc n). absurd (omega (arith, more, less, same));
        }
    by false e later =
        let f = later (sym (ap (λ (b : Bool). if b then Some n else last_below test n) e) ∙ is) in
        record {
          here = f.here;
          within = omega (arith, f.within);
          behind = λ (j : ℕ) (more : k < j) (less : j < suc n). ⊎_elim (λ (lt : j < n). f.behind j more lt) (λ (le : n ≤ j). (let same : n ≡ j = omega (arith, less, le) in subst (λ (m : ℕ). test m ≡ false) same e)) (cases_lt j n);
        }

last_none : (test : ℕ → Bool) (n : ℕ) → last_below test n ≡ None → (k : ℕ) → k < n → test k ≡ false
last_none test zero is k lt = absurd (omega (arith, lt))
last_none test (suc n) is k lt = by (test n) refl (λ (e : last_below test n ≡ None) (less : k < n). last_none test n e k less)
  where
    some_none : ◌≡◌ {A = Option ℕ} (Some n) None → ⊥
    some_none f = cc

    by : (b : Bool) → test n ≡ b → (last_below test n ≡ None → k < n → test k ≡ false) → test k ≡ false
    by true e later = absurd (some_none (sym (ap (λ (b : Bool). if b then Some n else last_below test n) e) ∙ is))
    by false e later =
        ⊎_elim (λ (less : k < n). later (sym (ap (λ (b : Bool). if b then Some n else last_below test n) e) ∙ is) less)
        (λ (le : n ≤ k). (let same : n ≡ k = omega (arith, lt, le) in subst (λ (m : ℕ). test m ≡ false) same e)) (cases_lt k n)

-- The search from above, a slot at a time.
pub last_at : (pipe : PipeParts) (n k : ℕ) → n ≡ suc k → is_some (packet_at pipe k) ≡ true → last_below (λ (k : ℕ). is_some (packet_at pipe k)) n ≡ Some k
last_at pipe n k more is = ap (last_below (λ (k : ℕ). is_some (packet_at pipe k))) more ∙ ap (λ (b : Bool). if b then Some k else last_below (λ (k : ℕ). is_some (packet_at pipe k)) k) is

pub last_lower : (pipe : PipeParts) (n k : ℕ) → n ≡ suc k → is_some (packet_at pipe k) ≡ false → last_below (λ (k : ℕ). is_some (packet_at pipe k)) n ≡ last_below (λ (k : ℕ). is_some (packet_at pipe k)) k
last_lower pipe n k more is = ap (last_below (λ (k : ℕ). is_some (packet_at pipe k))) more ∙ ap (λ (b : Bool). if b then Some k else last_below (λ (k : ℕ). is_some (packet_at pipe k)) k) is

beyond : (slots : List (Option Packet)) (k : ℕ) → length slots ≤ k → slice_get slots k ≡ None
beyond [] k le = refl
beyond (x ∷ slots) zero le = absurd (omega (arith, le))
beyond (x ∷ slots) (suc k) le = beyond slots k (omega (arith, le))

-- No slot is found exactly where none is taken.
pub empty_is : (pipe : PipeParts) (found : Option ℕ) → found ≡ last_below (λ (k : ℕ). is_some (packet_at pipe k)) (length pipe.slots) → (found ≡ None) ↔ IsEmpty pipe
empty_is pipe None e = (λ f k. ⊎_elim (λ (lt : k < length pipe.slots). no_packet k (last_none (λ (k : ℕ). is_some (packet_at pipe k)) (length pipe.slots) (sym e) k lt)) (past k) (cases_lt k (length pipe.slots)), λ all. refl)
  where
    none_is : (o : Option Packet) → is_some o ≡ false → o ≡ None
    none_is None f = refl
    none_is (Some x) f = cc

    no_packet : (k : ℕ) → is_some (packet_at pipe k) ≡ false → packet_at pipe k ≡ None
    no_packet k f = none_is (packet_at pipe k) f

    past : (k : ℕ) → length pipe.slots ≤ k → packet_at pipe k ≡ None
    past k le = ap (λ (o : Option (Option Packet)). option_and_then (λ slot. slot) o) (beyond pipe.slots k le)
empty_is pipe (Some k) e = (λ f. absurd (some_none f), λ all. absurd (true≢false (sym (last_found (λ (k : ℕ). is_some (packet_at pipe k)) (length pipe.slots) k (sym e)).here ∙ ap (λ (o : Option Packet). is_some o) (all k))))
  where
    some_none : ◌≡◌ {A = Option ℕ} (Some k) None → ⊥
    some_none f = cc

module _ (parts : CoreParts) (scene : Scene) (p : Progress) (pipe : PipeParts) (is : IsAt parts scene p pipe) where
  -- The last slot that is taken is that of the oldest packet.
  pub oldest_is : last_below (λ (k : ℕ). is_some (packet_at pipe k)) (length pipe.slots) ≡ oldest p
  oldest_is =
      last_same (λ (k : ℕ). is_some (packet_at pipe k)) (is_taken p) (length pipe.slots) (λ (k : ℕ). taken parts scene p pipe is k)
      ∙ ap (last_below (is_taken p)) (is.long ∙ sym (passed_many parts scene p pipe is))

  pub free_behind : (k : ℕ) → oldest p ≡ Some k → is_taken p (k + 1) ≡ false
  free_behind k found =
      let f = last_found (is_taken p) (length p.passed) k found in
      ⊎_elim (λ (lt : k + 1 < length p.passed). f.behind (k + 1) (omega arith) lt)
      (λ (le : length p.passed ≤ k + 1). ap (λ (b : Bool). b && nat_lt (slice_index p.passed (k + 1)) (came p.entered p.passed (k + 1))) (le-ltb (k + 1) (length p.passed) le))
      (cases_lt (k + 1) (length p.passed))

  -- The oldest can move.
  pub goes_is : (k : ℕ) → oldest p ≡ Some k →
      goes (drive_of parts pipe scene) p k ≡ record { text = line (codes "go ") k ++ left_text (drive_of parts pipe scene) p k; block = left_text (drive_of parts pipe scene) p k; progress = moved p k; stage = Some k }
  goes_is k found = went_is parts scene p pipe k (last_found (is_taken p) (length p.passed) k found).here (free_behind k found)

  -- Once none is in the pipe, all that entered passed all stages.
  module _ (empty : IsEmpty pipe) where
    reverse : (a b : ℕ) → nat_lt a b ≡ false → b ≤ a
    reverse a b f = grind (arith, nat_tests)

    all_came : (k : ℕ) → k < length p.passed → came p.entered p.passed k ≤ slice_index p.passed k
    all_came k lt =
        reverse (slice_index p.passed k) (came p.entered p.passed k)
        (sym (both_true (nat_lt k (length p.passed)) (nat_lt (slice_index p.passed k) (came p.entered p.passed k)) (below k (length p.passed) lt)) ∙ sym (taken parts scene p pipe is k) ∙ ap (λ (o : Option Packet). is_some o) (empty k))

    least : (k : ℕ) → k < length p.passed → p.entered ≤ slice_index p.passed k
    least zero lt = all_came zero lt
    least (suc k) lt = omega (arith, least k (omega (arith, lt)), all_came (suc k) lt)

    pub all_passed : (k : ℕ) → k < length pipe.placed.stages → slice_index p.passed k ≡ p.entered
    all_passed k lt = omega (arith, few_passed parts scene p pipe is k, least k (subst (λ (n : ℕ). k < n) (sym (passed_many parts scene p pipe is)) lt))

-- A count of one more move.
one_more : (n : ℕ) → (if nat_lt (counted n + 1) (2 ^ 64) then counted n + 1 else counted n) ≡ counted (suc n)
one_more n = grind (arith, nat_tests)

module _ (parts : CoreParts) (scene : Scene) (old : DriveState) (moves : ℕ) (before after : PipeParts) (k : ℕ) (h : Happened) (at : StandsAfter parts scene old moves before) where
  abbrev d : Drive
  d = drive_of parts before scene

  abbrev p : Progress
  p = progress_at d old.done moves

  -- The text of the oldest packet's move, and its new place.
  module _ (found : oldest p ≡ Some k) (did : Did parts scene p.entered (goes d p k) h after) where
    pub flushed_text : happened_block parts h ≡ (flush_at d old.done moves).text
    flushed_text = did.block ∙ ap (λ (q : Done). q.block) (goes_is parts scene p before at.is k found) ∙ sym (ap (λ (o : Option ℕ). (flushes_at d p o).text) found)

    pub flushed_slot : Some k ≡ (flush_at d old.done moves).stage
    flushed_slot = sym (ap (λ (o : Option ℕ). (flushes_at d p o).stage) found)

    pub flushed_stands : (count : ℕ) → old.done ≡ length scene.steps → after.placed ≡ before.placed → count ≡ (if nat_lt (old.flushed + 1) (2 ^ 64) then old.flushed + 1 else old.flushed) →
        StandsAfter parts scene (record { done = old.done; flushed = count; entered = old.entered; failed = old.failed }) (suc moves) after
    flushed_stands count all_done same is_count = record {
      kept = at.kept;
      sound = at.sound;
      done = at.done;
      early = λ (more : old.done < length scene.steps). absurd (omega (arith, more, all_done));
      flushed = is_count ∙ ap (λ (n : ℕ). if nat_lt (n + 1) (2 ^ 64) then n + 1 else n) at.flushed ∙ one_more moves;
      entered = at.entered ∙ sym (ap (λ (o : Option ℕ). (flushes_at d p o).progress.entered) found) ∙ ap (λ (q : Progress). q.entered) (sym next);
      is = subst (λ (q : Progress). IsAt parts scene q after) (ap (λ (q : Done). q.progress) (goes_is parts scene p before at.is k found) ∙ sym (ap (λ (o : Option ℕ). (flushes_at d p o).progress) found) ∙ sym next) did.is;
    }
      where
        next : progress_at (drive_of parts after scene) old.done (suc moves) ≡ (flushes d p).progress
        next = ap (λ (placed : PlacedParts). progress_at (record { parts = parts; stages = placed.stages; scene = scene }) old.done (suc moves)) same

-- ---- the end

-- The cells of an empty pipe are those after all that entered.
pub last_cells : (parts : CoreParts) (scene : Scene) (s : DriveState) (moves : ℕ) (pipe : PipeParts) → CellsStayFit parts → Laws pipe → StandsAfter parts scene s moves pipe → IsEmpty pipe → pipe.cells ≡ core.after parts (entries scene) s.entered
last_cells parts scene s moves pipe stay laws at empty =
    let p : Progress = progress_at (drive_of parts pipe scene) s.done moves in
    ended parts scene p pipe at.is stay laws (all_passed parts scene p pipe at.is empty) ∙ ap (core.after parts (entries scene)) (sym at.entered)
