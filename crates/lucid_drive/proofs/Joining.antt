-- The parts of a whole drive, one after another.
use Rattle.std.proofs.Common.{◌≡◌, ℕ, suc, ◌<◌, List, [], ◌∷◌, ◌++◌, Option, Some, Result, Ok, Err, OnOk, false, length, take, refl, sym, ◌∙◌, ap, subst}
use Rattle.std.proofs.Math.Seq.{take-length}
use Rattle.lucid_conf.specs.Kept.{IsScene}
use Rattle.lucid_conf.specs.declared.scene.Scene.{Scene}
use Rattle.lucid_conf.specs.declared.scene.Step.{Step}
use Rattle.lucid_core.specs.Parts.{CoreParts}
use Rattle.lucid_core.specs.Step.{after}
use Rattle.lucid_io.proofs.Leaves.{Leaves-after, Leaves-whole, PutsAll-last, PutsPart-at, PutsPart-last}
use Rattle.lucid_io.specs.Puts.{Leaves, PutsAll, PutsPart}
use Rattle.lucid_normal_spec.specs.Stands.{StandsFor}
use Rattle.lucid_pipe.specs.Packets.{Packet}
use Rattle.lucid_pipe.specs.Pipe.{PipeParts, empty_pipe}
use Rattle.lucid_pipe.specs.declared.sight.Sight.{Sight}
use Rattle.lucid_drive.specs.Changes.{Changes, Moved}
use Rattle.lucid_drive.specs.Drive.{Drive, after_steps, begun, drive_log, end_text, entries, flight_text, last_text, text_from}
use Rattle.lucid_drive.specs.Sights.{ShowsSome, sights, sights_from, sights_to}
use Rattle.lucid_pipe.specs.Sights.{ShowsAll}
use Rattle.lucid_drive.specs.Standing.{drive_of}
use Rattle.lucid_drive.specs.State.{IsEmpty, StandsAfter, flush_at, moves_after, progress_at, text_to}
use Rattle.lucid_drive.specs.declared.state.DriveState.{DriveState}
use Rattle.lucid_drive.proofs.Flushing.{moves_less, work}
use Rattle.lucid_drive.proofs.Running.{Flushing, flight_left, flight_none, flush_text, flushing_next}
use Rattle.lucid_drive.proofs.States.{new_stands}

take_whole : (d : Drive) (count : ℕ) → count ≡ length d.scene.steps → take count d.scene.steps ≡ d.scene.steps
take_whole d count all = ap (λ (n : ℕ). take n d.scene.steps) all ∙ take-length d.scene.steps

-- A fresh pipe is at a new state.
pub fresh_stands : (parts : CoreParts) (scene : Scene) (pipe : PipeParts) (state : DriveState) → IsScene parts scene → StandsFor pipe.placed.code parts → pipe.placed.code.arrays ≡ parts.arrays → pipe ≡ empty_pipe pipe.placed →
    state ≡ record { done = 0; flushed = 0; entered = 0; failed = false } → StandsAfter parts scene state 0 pipe
fresh_stands parts scene pipe state kept stands_for arrays fresh new =
    subst (λ (s : DriveState). StandsAfter parts scene s 0 pipe) (sym new)
    (subst (λ (q : PipeParts). StandsAfter parts scene (record { done = 0; flushed = 0; entered = 0; failed = false }) 0 q) (sym fresh) (new_stands parts scene pipe.placed kept stands_for arrays))

pub on_ok : {T E P : Type 0} (r : Result T E) → P → OnOk r P
on_ok (Ok x) p = p
on_ok (Err e) p = tt

pub all_shown : (d : Drive) (old new : Option (List Sight)) (count : ℕ) → count ≡ length d.scene.steps → ShowsAll old new (sights_to d count) → ShowsAll old new (sights d)
all_shown d old new count all = subst (λ (xs : List Step). ShowsAll old new (sights_from d (begun d) xs)) (take_whole d count all)

pub some_shown : (d : Drive) (old new : Option (List Sight)) (count : ℕ) → count ≡ length d.scene.steps → ShowsSome old new (sights_to d count) → ShowsSome old new (sights d)
some_shown d old new count all = subst (λ (xs : List Step). ShowsSome old new (sights_from d (begun d) xs)) (take_whole d count all)

pub first_shown : (old new : Option (List Sight)) (xs : List Sight) → ShowsAll old new xs → ShowsSome old new xs
first_shown old new xs all = (length xs, subst (ShowsAll old new) (sym (take-length xs)) all)

pub log_parts : (d : Drive) (count : ℕ) → count ≡ length d.scene.steps → drive_log d ≡ text_to d count ++ end_text d (after_steps d)
log_parts d count all = ap (λ (xs : List Step). text_from d (begun d) xs ++ end_text d (after_steps d)) (sym (take_whole d count all))

pub last_cells_are : (parts : CoreParts) (scene : Scene) (cells : List (List ℕ)) (entered : ℕ) (d_rest d : Drive) → cells ≡ after parts (entries scene) entered → entered ≡ (after_steps d_rest).entered → d_rest ≡ d →
    cells ≡ after parts (entries scene) (after_steps d).entered
last_cells_are parts scene cells entered d_rest d is came same = is ∙ ap (after parts (entries scene)) (came ∙ ap (λ (e : Drive). (after_steps e).entered) same)

-- A text that ends as a drive does, in three parts, each of which may be cut: the first, the blocks in flight, and the last part. The
-- text of a call is determined by its own pipe, of the same code.
module _ {T : Type 0} {written : T → Option (List ℕ)} {faults : T → ℕ} (d d_rest d_end : Drive) (whole first : List ℕ) (entered : ℕ) (same_rest : d_rest ≡ d) (same_end : d_end ≡ d) (joined : whole ≡ first ++ end_text d (after_steps d)) (old mid late new : T) where
  pub steps_cut : PutsPart written faults old new first → PutsPart written faults old new whole
  steps_cut cut = PutsPart-at (end_text d (after_steps d)) Leaves-whole cut joined

  module _ (steps_put : PutsAll written faults old mid first) where
    steps_left : Leaves written faults old mid whole (end_text d (after_steps d))
    steps_left = Leaves-after Leaves-whole steps_put joined

    pub rest_cut : PutsPart written faults mid new (flight_text d_rest (after_steps d_rest)) → PutsPart written faults old new whole
    rest_cut cut = PutsPart-at (last_text d (after_steps d).entered) steps_left (subst (λ (e : Drive). PutsPart written faults mid new (flight_text e (after_steps e))) same_rest cut) refl

    module _ (rest_put : PutsAll written faults mid late (flight_text d_rest (after_steps d_rest))) (came : entered ≡ (after_steps d_rest).entered) where
      rest_left : Leaves written faults old late whole (last_text d (after_steps d).entered)
      rest_left = Leaves-after steps_left (subst (λ (e : Drive). PutsAll written faults mid late (flight_text e (after_steps e))) same_rest rest_put) refl

      last_is : last_text d_end entered ≡ last_text d (after_steps d).entered
      last_is = ap (λ (e : Drive). last_text e entered) same_end ∙ ap (last_text d) (came ∙ ap (λ (e : Drive). (after_steps e).entered) same_rest)

      pub end_cut : PutsPart written faults late new (last_text d_end entered) → PutsPart written faults old new whole
      end_cut cut = PutsPart-last rest_left cut (sym last_is)

      pub end_put : PutsAll written faults late new (last_text d_end entered) → PutsAll written faults old new whole
      end_put put = PutsAll-last rest_left put (sym last_is)

-- ---- the last move of the packets in flight

pub changes_less : (before after : PipeParts) (moved : Option ℕ) (k : ℕ) → moved ≡ Some k → Changes before moved after → work after.slots < work before.slots
changes_less before after moved k is c =
    let one : (p : Packet) × Moved before k p after = subst (λ (o : Option ℕ). Changes before o after) is c in
    moves_less before after k one.0 one.1

nil_first : (xs ys : List ℕ) → [] ≡ xs ++ ys → xs ≡ []
nil_first [] ys e = refl
nil_first (x ∷ xs) ys e = cc

module _ {T : Type 0} {written : T → Option (List ℕ)} {faults : T → ℕ} (old now : T) (parts : CoreParts) (scene : Scene) (start pipe : PipeParts) (state : DriveState) (so : Flushing written faults old now parts scene start pipe state) where
  pub flushing_on : (new : T) (then_pipe : PipeParts) (then_state : DriveState) (moved : Option ℕ) (k : ℕ) → moved ≡ Some k → then_pipe.placed ≡ pipe.placed → then_state.done ≡ state.done → StandsAfter parts scene then_state (moves_after moved so.moves) then_pipe →
      PutsAll written faults now new (flush_at (drive_of parts pipe scene) state.done so.moves).text → Flushing written faults old new parts scene start then_pipe then_state
  flushing_on new then_pipe then_state moved k is same done at puts =
      flushing_next old now parts scene start pipe state so new then_pipe then_state same done (subst (λ (o : Option ℕ). StandsAfter parts scene then_state (moves_after o so.moves) then_pipe) is at) puts

  -- Where none is in flight nothing more is written.
  pub flushing_end : (new : T) → IsEmpty pipe → 0 < length pipe.placed.stages → PutsAll written faults now new (flush_at (drive_of parts pipe scene) state.done so.moves).text →
      PutsAll written faults old new (flight_text (drive_of parts start scene) (after_steps (drive_of parts start scene)))
  flushing_end new empty some puts =
      let none = flight_none old now parts scene start pipe state so empty some in
      PutsAll-last so.text (subst (PutsAll written faults now new) (flush_text old now parts scene start pipe state so) puts)
      (none ∙ sym (nil_first (flush_at (drive_of parts start scene) (length scene.steps) so.moves).text (flight_text (drive_of parts start scene) (progress_at (drive_of parts start scene) (length scene.steps) (suc so.moves))) (sym none ∙ flight_left old now parts scene start pipe state so)))
