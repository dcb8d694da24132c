-- What a drive with a snapshot writes, part after part.
use Rattle.std.proofs.Common.{◌≡◌, ℕ, List, ◌++◌, Option, Result, Err, codes, length, min, refl, sym, ◌∙◌, ap, subst}
use Rattle.lucid_conf.specs.declared.scene.Scene.{Scene}
use Rattle.lucid_core.specs.Parts.{CoreParts}
use Rattle.lucid_core.specs.Step.{after}
use Rattle.lucid_io.proofs.Leaves.{Leaves-after, Leaves-whole, PutsAll-last, PutsPart-at, PutsPart-last}
use Rattle.lucid_io.specs.Puts.{Leaves, PutsAll, PutsPart}
use Rattle.lucid_log.specs.Cells.{cells_text}
use Rattle.lucid_pipe.specs.Pipe.{PipeParts}
use Rattle.lucid_drive.specs.Drive.{Drive, entries, line}
use Rattle.lucid_drive.specs.Standing.{drive_of}
use Rattle.lucid_drive.specs.State.{StandsAfter, progress_at, text_to}
use Rattle.lucid_drive.specs.declared.state.DriveState.{DriveState}
use Rattle.lucid_drive.proofs.Running.{drive_same}
use Rattle.lucid_snap.specs.Log.{entered_by, log_after, snap_log, snap_text}
use Rattle.lucid_snap.specs.Writes.{Writes}
use Rattle.lucid_snap.specs.declared.error.SnapError.TheVariants as error
use Rattle.lucid_snap.specs.declared.error.SnapError.{SnapError}
use Rattle.lucid_snap.proofs.Trailing.{first_part, same_entered}

-- The snapshot's lines.
pub shown_is : (parts : CoreParts) (scene : Scene) (start pipe : PipeParts) (state : DriveState) (steps entered : ℕ) (copies : List (List ℕ)) → StandsAfter parts scene state 0 pipe → pipe.placed ≡ start.placed →
    state.done ≡ min steps (length scene.steps) → entered ≡ state.entered → copies ≡ after parts (entries scene) state.entered →
    line (codes "snap after ") entered ++ cells_text 0 parts.arrays copies ≡ snap_text (drive_of parts start scene) (entered_by (drive_of parts start scene) steps)
shown_is parts scene start pipe state steps entered copies at same done came is =
    ap (λ (cells : List (List ℕ)). line (codes "snap after ") entered ++ cells_text 0 parts.arrays cells) is
    ∙ ap (λ (n : ℕ). line (codes "snap after ") n ++ cells_text 0 parts.arrays (after parts (entries scene) state.entered)) came
    ∙ ap (snap_text (drive_of parts start scene)) had
  where
    had : state.entered ≡ entered_by (drive_of parts start scene) steps
    had = at.entered ∙ ap (λ (e : Drive). (progress_at e state.done 0).entered) (drive_same parts scene pipe start same)
        ∙ ap (λ (n : ℕ). (progress_at (drive_of parts start scene) n 0).entered) done
        ∙ same_entered (drive_of parts start scene) steps

module _ {T : Type 0} (written : T → Option (List ℕ)) (faults : T → ℕ) (d d_follow : Drive) (steps count n : ℕ) (same : d_follow ≡ d) (done : n ≡ count) (old mid late new : T) (r : Result (Unit {0}) SnapError) where
  pub writes_first : r ≡ Err error.WriteFault → PutsPart written faults old new (text_to d count) → Writes written faults old new (snap_log d steps) r
  writes_first is cut =
      subst (Writes written faults old new (snap_log d steps)) (sym is)
      (PutsPart-at (log_after d count ++ snap_text d (entered_by d steps)) Leaves-whole cut (first_part d count steps))

  module _ (first_put : PutsAll written faults old mid (text_to d count)) where
    first_left : Leaves written faults old mid (snap_log d steps) (log_after d count ++ snap_text d (entered_by d steps))
    first_left = Leaves-after Leaves-whole first_put (first_part d count steps)

    pub writes_no_snap : r ≡ Err error.Memory → Writes written faults old mid (snap_log d steps) r
    writes_no_snap is = subst (Writes written faults old mid (snap_log d steps)) (sym is) (log_after d count ++ snap_text d (entered_by d steps), first_left)

    rest_is : log_after d_follow n ≡ log_after d count
    rest_is = ap (λ (e : Drive). log_after e n) same ∙ ap (log_after d) done

    pub writes_rest : r ≡ Err error.WriteFault → PutsPart written faults mid new (log_after d_follow n) → Writes written faults old new (snap_log d steps) r
    writes_rest is cut =
        subst (Writes written faults old new (snap_log d steps)) (sym is)
        (PutsPart-at (snap_text d (entered_by d steps)) first_left (subst (PutsPart written faults mid new) rest_is cut) refl)

    module _ (rest_put : PutsAll written faults mid late (log_after d_follow n)) (shown : List ℕ) (is_shown : shown ≡ snap_text d (entered_by d steps)) where
      rest_left : Leaves written faults old late (snap_log d steps) (snap_text d (entered_by d steps))
      rest_left = Leaves-after first_left (subst (PutsAll written faults mid late) rest_is rest_put) refl

      pub writes_snap : r ≡ Err error.WriteFault → PutsPart written faults late new shown → Writes written faults old new (snap_log d steps) r
      writes_snap is cut = subst (Writes written faults old new (snap_log d steps)) (sym is) (PutsPart-last rest_left cut (sym is_shown))

      pub writes_all : PutsAll written faults late new shown → PutsAll written faults old new (snap_log d steps)
      writes_all put = PutsAll-last rest_left put (sym is_shown)
